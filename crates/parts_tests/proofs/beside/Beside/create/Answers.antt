-- Nobody holds a clock, and none has a link.
use Rattle.std.proofs.Common.{ℕ, List, Option, ap, sym, ◌∙◌, subst, length, replicate}
use Rattle.std.proofs.lemmas.List.{length-replicate}
use Rattle.clk_base.specs.declared.clock.ClockId.{ClockId}
use Rattle.clk_base.specs.Description.{Description}
use Rattle.clk_model.specs.declared.row.ClockRow.{ClockRow}
use Rattle.clk_model.specs.State.{unregistered_row}
use Rattle.counts_core.specs.Counted.{HasLinks}
use Rattle.counts_core.proofs.Held.{none_link}
use Rattle.counts_core.proofs.Linking.{links_at_first}
use Rattle.parts_tests.proofs.beside.Beside.create.Goals as goal

pub invariant_of-result : goal.invariant_of-result
invariant_of-result c =
    let n = length c.args.desc.now.defs in
    let many = ap (λ (k : ℕ). replicate k 0) (sym c.len.ensures.len) in
    record {
      size =
          ap (λ (defs : Description). length defs) c.in_ok-tree.ensures.defs
          ∙ sym (ap (λ (ls : List (Option ClockId)). length ls) c.in_ok-counts.ensures.links ∙ length-replicate n (none_link tt));
      links =
          subst (λ (rows : List ClockRow). HasLinks rows c.in_ok-counts.counts.links) (sym c.in_ok-tree.ensures.rows)
          (subst (λ (ls : List (Option ClockId)). HasLinks (replicate n unregistered_row) ls) (sym c.in_ok-counts.ensures.links) (links_at_first n n));
      stands = c.in_ok-counts.ensures.stands;
      enabled = c.in_ok-counts.ensures.enables ∙ many ∙ sym c.in_ok-own.ensures.enables;
      prepared = c.in_ok-counts.ensures.prepares ∙ many ∙ sym c.in_ok-own.ensures.prepares;
      excluded = c.in_ok-counts.ensures.exclusives ∙ many ∙ sym c.in_ok-own.ensures.exclusives;
    }
