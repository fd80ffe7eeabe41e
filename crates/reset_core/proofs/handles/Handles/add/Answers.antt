use Rattle.std.proofs.Common.{Option, Some, None, List, ◌∷◌, [], ◌++◌, ◌≡◌, ◌+◌, ◌^◌, ◌<◌, length, slice_set, refl, sym, subst, ◌∙◌, arith}
use Rattle.std.proofs.lemmas.List.{get_or_read}
use Rattle.reset_core.specs.declared.record.HandleRecord.{HandleRecord}
use Rattle.reset_core.specs.Lines.{deasserts_on}
use Rattle.reset_core.specs.Kept.{Held, tally_of, no_tally, IsTallied}
use Rattle.reset_core.proofs.Sums.{change_add, may_swap, tallied}
use Rattle.reset_core.proofs.handles.Handles.add.Goals as goal

pub swapped-requires : goal.swapped-requires
swapped-requires c =
    let rows = c.self.inside.rows.items in
    let row = c.args.row in
    let few : length rows + 1 < 2 ^ 32 = subst (λ (h : Held). length h.rows + 1 < 2 ^ 32) (sym c.self.view_is) c.requires.few in
    let place : row.line < length c.self.inside.tallies.items = subst (λ (h : Held). row.line < h.lines) (sym c.self.view_is) c.requires.line in
    let sums : deasserts_on row.line rows + row.deasserts < 2 ^ 32 = subst (λ (h : Held). deasserts_on row.line h.rows + row.deasserts < 2 ^ 32) (sym c.self.view_is) c.requires.sums in
    let at : c.index.result.now ≡ tally_of rows row.line = get_or_read c.self.inside.tallies.items row.line c.index.result.now place c.index.ensures no_tally ∙ c.self.invariant.each row.line place in
    may_swap row.line rows (rows ++ Some row ∷ []) None (Some row) (change_add row.line rows row refl few) c.index.result.now at (omega (arith, sums))

pub invariant_of-self : goal.invariant_of-self
invariant_of-self c =
    let rows = c.self.inside.rows.items in
    let row = c.args.row in
    let few : length rows + 1 < 2 ^ 32 = subst (λ (h : Held). length h.rows + 1 < 2 ^ 32) (sym c.self.view_is) c.requires.few in
    let place : row.line < length c.self.inside.tallies.items = subst (λ (h : Held). row.line < h.lines) (sym c.self.view_is) c.requires.line in
    let at : c.index.result.now ≡ tally_of rows row.line = get_or_read c.self.inside.tallies.items row.line c.index.result.now place c.index.ensures no_tally ∙ c.self.invariant.each row.line place in
    subst (λ (hs : List (Option HandleRecord)). IsTallied (slice_set c.self.inside.tallies.items row.line c.swapped.result) hs) (sym c.push_reserved.ensures.items)
    (tallied row.line rows (rows ++ Some row ∷ []) None (Some row) (change_add row.line rows row refl few) c.self.inside.tallies.items c.index.result.now c.swapped.result c.self.invariant place at c.swapped.ensures)
