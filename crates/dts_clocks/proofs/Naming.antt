-- The clocks that cells name, one specifier more.
use Rattle.std.proofs.Common.{◌≡◌, ℕ, ◌+◌, ◌<◌, ◌≤◌, List, [], ◌∷◌, ◌++◌, length, get_or, drop, Option, Some, None, refl, sym, ap, ◌∙◌, inl, inr}
use Rattle.std.specs.Prelude.{slice_get}
use Rattle.std.specs.Option.{option_map, option_and_then}
use Rattle.std.proofs.lemmas.List.{at_drop_more, at_drop_all, append-nil}
use Rattle.std.proofs.lemmas.Option.{slice_get_cases, slice_get-get_or, slice_get_past}
use Rattle.clk_base.specs.declared.clock.ClockId.{ClockId}
use Rattle.dts_tree.specs.declared.tree.Cell.{Cell}
use Rattle.dts_tree.specs.Tree.{SeenNode}
use Rattle.dts_clocks.specs.declared.reference.Front.{Front}
use Rattle.dts_clocks.specs.declared.reference.Reference.TheVariants.{Null, Whole, Begun, Lacking}
use Rattle.dts_clocks.specs.Clocks.{clock_of, specifier, identified, with_null, with_clock, clocks_named}
use Rattle.dts_clocks.specs.References.{reference}

-- what cells name by the reference of their first
pub named_null : (nodes : List SeenNode) (cell : Cell) (rest : List Cell) → reference nodes cell ≡ Null → clocks_named nodes (cell ∷ rest) ≡ with_null (clocks_named nodes rest)
unfolding clocks_named
named_null nodes cell [] e = rw (e, clocks_named) refl
named_null nodes cell (next ∷ rest) e = rw (e, clocks_named) refl

pub named_whole : (nodes : List SeenNode) (cell : Cell) (rest : List Cell) (p : ℕ) → reference nodes cell ≡ Whole p → clocks_named nodes (cell ∷ rest) ≡ with_clock (clock_of nodes (specifier p None)) (clocks_named nodes rest)
unfolding clocks_named
named_whole nodes cell [] p e = rw (e, clocks_named) refl
named_whole nodes cell (next ∷ rest) p e = rw (e, clocks_named) refl

pub named_begun : (nodes : List SeenNode) (cell next : Cell) (rest : List Cell) (p : ℕ) → reference nodes cell ≡ Begun p → clocks_named nodes (cell ∷ next ∷ rest) ≡ with_clock (identified nodes p next) (clocks_named nodes rest)
unfolding clocks_named
named_begun nodes cell next rest p e = rw (e, clocks_named) refl

pub named_unfinished : (nodes : List SeenNode) (cell : Cell) (p : ℕ) → reference nodes cell ≡ Begun p → clocks_named nodes (cell ∷ []) ≡ None
unfolding clocks_named
named_unfinished nodes cell p e = rw (e, clocks_named) refl

pub named_lacking : (nodes : List SeenNode) (cell : Cell) (rest : List Cell) → reference nodes cell ≡ Lacking → clocks_named nodes (cell ∷ rest) ≡ None
unfolding clocks_named
named_lacking nodes cell [] e = rw (e, clocks_named) refl
named_lacking nodes cell (next ∷ rest) e = rw (e, clocks_named) refl

-- what the first specifier names, in front of what the cells behind it name
abbrev pub led_by : List SeenNode → List Cell → Option Front → Option (List (Option ClockId))
led_by nodes cells front = option_and_then (λ front. option_map (λ more. front.clock ∷ more) (clocks_named nodes (drop front.behind cells))) front

-- where a specifier names a clock, and ends before this place
abbrev pub ending : ℕ → Option ClockId → Option Front
ending behind clock = option_map (λ c. record { clock = Some c; behind = behind }) clock

led_clock : (nodes : List SeenNode) (cells : List Cell) (behind : ℕ) (clock : Option ClockId) → led_by nodes cells (ending behind clock) ≡ with_clock clock (clocks_named nodes (drop behind cells))
led_clock nodes cells behind None = refl
led_clock nodes cells behind (Some c) = refl

pub led_null : (nodes : List SeenNode) (cells : List Cell) (at : ℕ) (d : Cell) → at < length cells → reference nodes (get_or cells at d) ≡ Null → led_by nodes cells (Some (record { clock = None; behind = at + 1 })) ≡ clocks_named nodes (drop at cells)
led_null nodes cells at d low e = sym (at_drop_more (clocks_named nodes) cells at d low ∙ named_null nodes (get_or cells at d) (drop (at + 1) cells) e)

pub led_whole : (nodes : List SeenNode) (cells : List Cell) (at : ℕ) (d : Cell) (p : ℕ) → at < length cells → reference nodes (get_or cells at d) ≡ Whole p → led_by nodes cells (ending (at + 1) (clock_of nodes (specifier p None))) ≡ clocks_named nodes (drop at cells)
led_whole nodes cells at d p low e =
    led_clock nodes cells (at + 1) (clock_of nodes (specifier p None)) ∙ sym (at_drop_more (clocks_named nodes) cells at d low ∙ named_whole nodes (get_or cells at d) (drop (at + 1) cells) p e)

-- the identifier stands behind the reference, or is missing
begun_there : (nodes : List SeenNode) (cells : List Cell) (next : ℕ) (cell d : Cell) (p : ℕ) → next < length cells → reference nodes cell ≡ Begun p
    → clocks_named nodes (cell ∷ drop next cells) ≡ with_clock (option_and_then (identified nodes p) (slice_get cells next)) (clocks_named nodes (drop (next + 1) cells))
begun_there nodes cells next cell d p low e =
    at_drop_more (λ rest. clocks_named nodes (cell ∷ rest)) cells next d low
    ∙ (named_begun nodes cell (get_or cells next d) (drop (next + 1) cells) p e ∙ ap (λ o. with_clock (option_and_then (identified nodes p) o) (clocks_named nodes (drop (next + 1) cells))) (sym (slice_get-get_or cells next d low)))

begun_missing : (nodes : List SeenNode) (cells : List Cell) (next : ℕ) (cell : Cell) (p : ℕ) → length cells ≤ next → reference nodes cell ≡ Begun p
    → clocks_named nodes (cell ∷ drop next cells) ≡ with_clock (option_and_then (identified nodes p) (slice_get cells next)) (clocks_named nodes (drop (next + 1) cells))
begun_missing nodes cells next cell p all e =
    at_drop_all (λ rest. clocks_named nodes (cell ∷ rest)) cells next all
    ∙ (named_unfinished nodes cell p e ∙ ap (λ o. with_clock (option_and_then (identified nodes p) o) (clocks_named nodes (drop (next + 1) cells))) (sym (slice_get_past cells next all)))

begun_any : (nodes : List SeenNode) (cells : List Cell) (next : ℕ) (cell : Cell) (p : ℕ) → reference nodes cell ≡ Begun p
    → clocks_named nodes (cell ∷ drop next cells) ≡ with_clock (option_and_then (identified nodes p) (slice_get cells next)) (clocks_named nodes (drop (next + 1) cells))
begun_any nodes cells next cell p e =
    elim (slice_get_cases cells next).1 [
      | inl found ↦ begun_there nodes cells next cell found.0 p found.1 e
      | inr past ↦ begun_missing nodes cells next cell p past.0 e
    ]

pub led_begun : (nodes : List SeenNode) (cells : List Cell) (at : ℕ) (d : Cell) (p : ℕ) → at < length cells → reference nodes (get_or cells at d) ≡ Begun p
    → led_by nodes cells (ending (at + 1 + 1) (option_and_then (identified nodes p) (slice_get cells (at + 1)))) ≡ clocks_named nodes (drop at cells)
led_begun nodes cells at d p low e =
    led_clock nodes cells (at + 1 + 1) (option_and_then (identified nodes p) (slice_get cells (at + 1)))
    ∙ sym (at_drop_more (clocks_named nodes) cells at d low ∙ begun_any nodes cells (at + 1) (get_or cells at d) p e)

pub led_lacking : (nodes : List SeenNode) (cells : List Cell) (at : ℕ) (d : Cell) → at < length cells → reference nodes (get_or cells at d) ≡ Lacking → led_by nodes cells None ≡ clocks_named nodes (drop at cells)
led_lacking nodes cells at d low e = sym (at_drop_more (clocks_named nodes) cells at d low ∙ named_lacking nodes (get_or cells at d) (drop (at + 1) cells) e)

-- all of them
pub named_all : (nodes : List SeenNode) (cells : List Cell) (at : ℕ) (found : List (Option ClockId)) → length cells ≤ at
    → clocks_named nodes cells ≡ option_map (λ more. found ++ more) (clocks_named nodes (drop at cells)) → Some found ≡ clocks_named nodes cells
unfolding clocks_named
named_all nodes cells at found all was =
    let P : List (Option ClockId) → Option (List (Option ClockId)) = λ ys. Some ys in
    sym (was ∙ (ap (option_map (λ more. found ++ more)) (at_drop_all (clocks_named nodes) cells at all) ∙ ap P (append-nil found)))
