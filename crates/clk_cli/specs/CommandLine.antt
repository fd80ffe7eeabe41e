-- The command line as `clap` reads it.
use Rattle.std.specs.Prelude.{List, [], ◌∷◌, Some, true, codes}
use Rattle.clap.specs.Walk.{Rule, Text}
use Rattle.clap.specs.Simple.{App, new_rule, new_shape, with_rule}
use Rattle.clap.specs.declared.builder.action.ArgAction.TheVariants.{SetTrue}

-- a flag of this id, which these letters behind `--` give
abbrev pub flag : Text → Text → Rule
flag id long = record (new_rule id) { long = Some long; action = Some SetTrue }

-- a command line on which every word is one behind the program's name, and which asks for neither help nor a version
abbrev pub bare : App
bare = record {
  top = record (new_shape (codes "clkbench")) { no_binary_name = true; disable_help_flag = true; disable_version_flag = true };
  subs = [];
}

-- the command's name, which must be there
abbrev pub command : Rule
command = record (new_rule (codes "command")) { required = true }

-- the command line: two flags, the command and its count
unfoldable pub clkbench : App
clkbench =
    with_rule (with_rule (with_rule (with_rule bare
    (flag (codes "journal") (codes "journal")))
    (flag (codes "ignore_unused") (codes "ignore-unused")))
    command)
    (new_rule (codes "count"))
