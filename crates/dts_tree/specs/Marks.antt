-- What a token is by itself.
use Rattle.std.specs.Prelude.{ℕ, ◌+◌, ◌-◌, ◌%◌, ◌==◌, ◌&&◌, not, Bool, List, length, take, drop, codes, position, slice_index, if◌then◌else◌}
use Rattle.std.specs.Char.{is_ascii_digit, is_ascii_hexdigit}
use Rattle.std.specs.List.{list_all}
use Rattle.std.specs.Option.{option_map_or}
use Rattle.std.specs.Str.{bytes_eq}
use Rattle.dts_tokens.specs.Characters.{is_name_character, is_label_character}
use Rattle.dts_tree.specs.declared.mark.Mark.{Mark}
use Rattle.dts_tree.specs.declared.mark.Mark.TheVariants.{Version, Reserve, Slash, OpenBrace, CloseBrace, Semicolon, Equals, Less, Greater, OpenBracket, CloseBracket, Comma, Label, Reference, Text, Word, Stray}

-- a token of one character
abbrev pub sign_mark : ℕ → Mark
sign_mark b =
    if b == 47 then Slash
    else (if b == 123 then OpenBrace
    else (if b == 125 then CloseBrace
    else (if b == 59 then Semicolon
    else (if b == 61 then Equals
    else (if b == 60 then Less
    else (if b == 62 then Greater
    else (if b == 91 then OpenBracket
    else (if b == 93 then CloseBracket
    else (if b == 44 then Comma
    else (if b == 58 then Stray
    else (if b == 38 then Stray
    else Word)))))))))))

-- a label has letters, digits and `_`, and no digit first
unfoldable pub is_label : List ℕ → Bool
is_label word = not (length word == 0) && not (is_ascii_digit (slice_index word 0)) && list_all is_label_character word

-- a token of more than one character
unfoldable pub long_mark : List ℕ → Mark
long_mark word =
    if bytes_eq word (codes "/dts-v1/") then Version
    else (if bytes_eq word (codes "/memreserve/") then Reserve
    else (if slice_index word 0 == 34 then Text
    else (if slice_index word 0 == 38 then (if is_label (drop 1 word) then Reference else Stray)
    else (if slice_index word (length word - 1) == 58 then (if is_label (take (length word - 1) word) then Label else Stray)
    else Word))))

-- what a token is
unfoldable pub mark_of : List ℕ → Mark
mark_of word = if length word == 1 then sign_mark (slice_index word 0) else long_mark word

-- a plain name has characters of names, one at least
unfoldable pub is_plain_name : List ℕ → Bool
is_plain_name word = not (length word == 0) && list_all is_name_character word

-- a node's name is a plain name, and behind an `@`, if it has one, another
unfoldable pub is_node_name : List ℕ → Bool
is_node_name word = option_map_or (λ at. is_plain_name (take at word) && is_plain_name (drop (at + 1) word)) (position (λ b. b == 64) word) (is_plain_name word)

-- bytes are pairs of hexadecimal digits
unfoldable pub are_bytes : List ℕ → Bool
are_bytes word = not (length word == 0) && (length word % 2 == 0) && list_all is_ascii_hexdigit word
