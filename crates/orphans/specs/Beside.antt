-- The tree beside a clock that is about to be registered, and clocks that wait.
use Rattle.std.specs.Prelude.{◌≡◌, ◌⊎◌, ℕ, ◌<◌, ◌==◌, ◌&&◌, Bool, true, false, not, if◌then◌else◌, List, Option, length}
use Rattle.std.specs.List.{list_any}
use Rattle.std.specs.Option.{option_map_or}
use Rattle.clk_base.specs.Description.{Description}
use Rattle.clk_base.specs.Tables.{flag_at}
use Rattle.reg_bank.specs.Registers.{Registers}
use Rattle.clk_model.specs.declared.row.ClockRow.{ClockRow}
use Rattle.clk_model.specs.Lists.{is_in, none_twice}
use Rattle.clk_model.specs.State.{State, link_in}
use Rattle.clk_model.specs.Begin.{register, registered_rows}
use Rattle.clk_model.specs.Script.{adoptable, adoption_order}
use Rattle.clk_model.specs.Tree.{path, link_given, roots, orphans}
use Rattle.clk_tree.specs.TreeState.{TreeState}

-- the links with one clock registered over this parent, or over none
abbrev pub up_beside : List ClockRow → ℕ → Option ℕ → ℕ → Option ℕ
up_beside clocks new link c = if new == c then link else link_in clocks c

-- the rows of a tree with one clock registered
abbrev pub rows_with : TreeState → Registers → ℕ → List ClockRow
rows_with t regs new = registered_rows t.defs regs t.clocks new

-- the marks are those of the clocks that wait, each once, which are clocks of the description
pub record AreMarked (n : ℕ) (marks : List Bool) (waiting : List ℕ) : Type 0 where
  pub size : length marks ≡ n
  pub once : none_twice waiting ≡ true
  pub inside : (x : ℕ) → is_in x waiting ≡ true → x < n
  pub marked : (x : ℕ) → flag_at marks x ≡ is_in x waiting

-- whether a registration would give the clock a parent
abbrev pub has_parent : Description → Registers → List ClockRow → ℕ → Bool
has_parent defs regs clocks a = option_map_or (λ p. true) (link_given defs regs clocks a) false

-- whether it would if the new clock was registered in a tree
abbrev pub waits_beside : TreeState → Registers → ℕ → ℕ → Bool
waits_beside t regs new = has_parent t.defs regs (rows_with t regs new)

-- these are the roots or the orphans of a tree, the newest attached first
abbrev pub StandTogether : TreeState → List ℕ → Type 0
StandTogether t cs = (cs ≡ roots t.defs t.order) ⊎ (cs ≡ orphans t.defs t.order t.clocks)

-- whether the clock has a parent to be given, above which no other marked clock stands
abbrev pub is_free : Description → Registers → List ClockRow → List Bool → ℕ → Bool
is_free defs regs clocks marks a =
    option_map_or (λ p. not (list_any (λ x. not (x == a) && flag_at marks x) (path clocks p))) (link_given defs regs clocks a) false

-- the clocks that are adopted when the new clock is registered, in the order of their adoption
abbrev pub adopted_order : State → ℕ → List ℕ
adopted_order s new = let left = adoptable (register s new) in adoption_order (length left) (register s new) left
