use Rattle.std.proofs.Common.{◌≡◌, ◌<◌, ◌∙◌, sym, ap, subst, length, take, List, Option, Some, None, ℕ}
use Rattle.std.specs.Option.{option_map}
use Rattle.clk_base.specs.Description.{Description}
use Rattle.clk_model.specs.declared.row.ClockRow.{ClockRow}
use Rattle.clk_base.specs.Valid.{IsValid}
use Rattle.core_parts.specs.Tied.{AreKept}
use Rattle.core_parts.proofs.Described.{valid_over}
use Rattle.core_parts.proofs.RegisteredTree.{rate-take, row_within, Fresh, refreshed}
use Rattle.core_parts.proofs.linking.link_to.Goals as goal

-- over the first words
kept_first : (n : ℕ) (told : Option (List ℕ)) (defs : Description) (clocks : List ClockRow) (rates : List ℕ) → IsValid n defs → Fresh defs told clocks rates → AreKept defs (option_map (take n) told) clocks rates
kept_first n None defs clocks rates valid fresh = tt
kept_first n (Some regs) defs clocks rates valid fresh = λ k there. fresh k there ∙ sym (rate-take n defs regs clocks k valid)

pub refresh_from-requires-clause-valid : goal.refresh_from-requires-clause-valid
refresh_from-requires-clause-valid g c =
    let tree = c.args.tree.now in
    subst (λ (ds : Description). IsValid (g.B.Bank.size c.bank.result.now) ds) (sym c.attach.ensures.defs)
    (valid_over tree.words c.args.window.now.size (g.B.Bank.size c.bank.result.now) tree.defs c.requires.valid c.requires.words c.bank.ensures.fits)

pub returns-clause-kept : goal.returns-clause-kept
returns-clause-kept g c =
    let tree = c.args.tree.now in
    let clocks = c.args.tree.now.clocks in
    let contents = g.B.Bank.contents c.bank.result.now in
    let many : length c.attach.new.self.clocks ≡ length tree.defs =
    c.attach.ensures.stands.rows ∙ ap (λ (d : Description). length d) c.attach.ensures.defs in
    let within : c.args.clock.0 < length clocks = row_within clocks c.attach.new.self.clocks c.args.clock.0 (length tree.defs) (Some c.args.parent) c.attach.ensures.link many c.requires.place in
    let words : option_map (take tree.words) contents ≡ c.args.window.now.words =
    ap (λ (n : ℕ). option_map (take n) contents) (sym c.requires.words) ∙ c.bank.ensures.words in
    let fresh : Fresh tree.defs contents c.refresh_from.new.self.clocks c.refresh_from.new.self.rates =
    subst (λ (rs : List ClockRow). Fresh tree.defs contents rs c.refresh_from.new.self.rates) (sym (c.refresh_from.ensures.rows ∙ c.attach.ensures.link))
    (refreshed tree.words contents tree.defs c.attach.new.self clocks c.args.tree.now.rates c.refresh_from.new.self.rates c.args.clock.0 (Some c.args.parent) c.requires.valid within
    c.attach.ensures.defs c.attach.ensures.link c.attach.ensures.rates
    (subst (λ (o : Option (List ℕ)). AreKept tree.defs o clocks c.args.tree.now.rates) (sym words) c.requires.kept) c.refresh_from.ensures.rates) in
    subst (λ (o : Option (List ℕ)). AreKept tree.defs o c.refresh_from.new.self.clocks c.refresh_from.new.self.rates) words
    (kept_first tree.words contents tree.defs c.refresh_from.new.self.clocks c.refresh_from.new.self.rates c.requires.valid fresh)
