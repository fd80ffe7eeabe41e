use Rattle.std.proofs.Common.{Some, ◌≡◌, ◌+◌, ◌-◌, ◌^◌, ◌<◌, length, slice_set, refl, sym, subst, ◌∙◌}
use Rattle.std.proofs.lemmas.List.{get_or_read}
use Rattle.reset_core.specs.Lines.{row_at, deasserts_on}
use Rattle.reset_core.specs.Kept.{Held, tally_of, no_tally, weights_of}
use Rattle.reset_core.proofs.Sums.{change_set, may_swap, tallied}
use Rattle.reset_core.proofs.handles.Handles.set.Goals as goal

pub swapped-requires : goal.swapped-requires
swapped-requires c =
    let rows = c.self.inside.rows.items in
    let row = c.args.old in
    let live : row_at rows c.args.number ≡ Some row = subst (λ (h : Held). row_at h.rows c.args.number ≡ Some row) (sym c.self.view_is) c.requires.live in
    let place : row.line < length c.self.inside.tallies.items = c.self.invariant.inside c.args.number row live in
    let sums : deasserts_on row.line rows - row.deasserts + (weights_of c.args.new).deasserts < 2 ^ 32 = subst (λ (h : Held). deasserts_on row.line h.rows - row.deasserts + (weights_of c.args.new).deasserts < 2 ^ 32) (sym c.self.view_is) c.requires.sums in
    let at : c.index.result.now ≡ tally_of rows row.line = get_or_read c.self.inside.tallies.items row.line c.index.result.now place c.index.ensures no_tally ∙ c.self.invariant.each row.line place in
    may_swap row.line rows (slice_set rows c.args.number c.args.new) (Some row) c.args.new (change_set row.line rows c.args.number row c.args.new live refl c.requires.line c.self.invariant.few) c.index.result.now at sums

pub invariant_of-self : goal.invariant_of-self
invariant_of-self c =
    let rows = c.self.inside.rows.items in
    let row = c.args.old in
    let live : row_at rows c.args.number ≡ Some row = subst (λ (h : Held). row_at h.rows c.args.number ≡ Some row) (sym c.self.view_is) c.requires.live in
    let place : row.line < length c.self.inside.tallies.items = c.self.invariant.inside c.args.number row live in
    let at : c.index.result.now ≡ tally_of rows row.line = get_or_read c.self.inside.tallies.items row.line c.index.result.now place c.index.ensures no_tally ∙ c.self.invariant.each row.line place in
    tallied row.line rows (slice_set rows c.args.number c.args.new) (Some row) c.args.new (change_set row.line rows c.args.number row c.args.new live refl c.requires.line c.self.invariant.few) c.self.inside.tallies.items c.index.result.now c.swapped.result c.self.invariant place at c.swapped.ensures
