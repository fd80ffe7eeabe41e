mod Literal
