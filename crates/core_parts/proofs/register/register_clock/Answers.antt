use Rattle.std.proofs.Common.{◌≡◌, ◌<◌, ◌∙◌, sym, ap, subst, arith, length, take, List, Option, ℕ}
use Rattle.std.specs.Prelude.{IfSome, slice_index}
use Rattle.std.specs.Option.{option_map}
use Rattle.clk_base.specs.Description.{Description}
use Rattle.clk_base.specs.Valid.{IsValid}
use Rattle.clk_model.specs.declared.row.ClockRow.{ClockRow}
use Rattle.clk_model.specs.State.{registered, link_in, requested}
use Rattle.clk_model.specs.Tree.{link_given}
use Rattle.clk_model.specs.Begin.{registered_rows}
use Rattle.clk_tree.specs.TreeState.{attached}
use Rattle.core_parts.specs.Tied.{AreKept}
use Rattle.core_parts.proofs.Described.{valid_over}
use Rattle.core_parts.proofs.RegisteredTree.{given_first, kept_registered, rows_registered, registered-registered, links_beside, row_within, Fresh, refreshed}
use Rattle.core_parts.proofs.register.register_clock.Goals as goal

pub read_link-parent-requires-clause-valid : goal.read_link-parent-requires-clause-valid
read_link-parent-requires-clause-valid g c =
    let tree = c.args.tree.now in
    valid_over tree.words c.args.window.now.size (g.B.Bank.size c.bank-bank.result.now) tree.defs c.requires.valid c.requires.words c.bank-bank.ensures.fits

pub refresh_from-requires-clause-valid : goal.refresh_from-requires-clause-valid
refresh_from-requires-clause-valid g c =
    let tree = c.args.tree.now in
    subst (λ (ds : Description). IsValid (g.B.Bank.size c.bank-bank.result.now) ds) (sym c.attach.ensures.defs)
    (valid_over tree.words c.args.window.now.size (g.B.Bank.size c.bank-bank.result.now) tree.defs c.requires.valid c.requires.words c.bank-bank.ensures.fits)

pub returns-clause-rows : goal.returns-clause-rows
returns-clause-rows g c = λ k.
    let clocks = c.args.tree.now.clocks in
    let parent = c.read_link-parent.result in
    let many : length c.attach.new.self.clocks ≡ length c.args.tree.now.defs =
    c.attach.ensures.stands.rows ∙ ap (λ (d : Description). length d) c.attach.ensures.defs in
    let within : c.args.clock.0 < length clocks = row_within clocks c.attach.new.self.clocks c.args.clock.0 (length c.args.tree.now.defs) parent c.attach.ensures.link many c.requires.place in
    let inside : c.args.clock.0 < length (attached clocks c.args.clock.0 parent) =
    subst (λ (rs : List ClockRow). c.args.clock.0 < length rs) c.attach.ensures.link (let place = c.requires.place in omega arith) in
    ap (λ (rs : List ClockRow). registered rs k)
    (c.set_last_request.ensures.request ∙ ap (λ (rs : List ClockRow). requested rs c.args.clock.0 c.rate-rate.result) (c.refresh_from.ensures.rows ∙ c.attach.ensures.link))
    ∙ registered-registered clocks c.args.clock.0 parent c.rate-rate.result k within inside

pub returns-clause-links : goal.returns-clause-links
returns-clause-links g c = λ d other.
    ap (λ (rs : List ClockRow). link_in rs d)
    (c.set_last_request.ensures.request ∙ ap (λ (rs : List ClockRow). requested rs c.args.clock.0 c.rate-rate.result) (c.refresh_from.ensures.rows ∙ c.attach.ensures.link))
    ∙ links_beside c.args.tree.now.clocks c.args.clock.0 c.read_link-parent.result c.rate-rate.result d other

pub returns-clause-clocks : goal.returns-clause-clocks
returns-clause-clocks g c =
    let tree = c.args.tree.now in
    let clocks = c.args.tree.now.clocks in
    let parent = c.read_link-parent.result in
    let contents = g.B.Bank.contents c.bank-bank.result.now in
    let many : length c.attach.new.self.clocks ≡ length tree.defs =
    c.attach.ensures.stands.rows ∙ ap (λ (d : Description). length d) c.attach.ensures.defs in
    let within : c.args.clock.0 < length clocks = row_within clocks c.attach.new.self.clocks c.args.clock.0 (length tree.defs) parent c.attach.ensures.link many c.requires.place in
    let words : option_map (take tree.words) contents ≡ c.args.window.now.words =
    ap (λ (n : ℕ). option_map (take n) contents) (sym c.requires.words) ∙ c.bank-bank.ensures.words in
    let chosen : IfSome (option_map (take tree.words) contents) (λ regs. option_map (λ p. p.0) parent ≡ link_given tree.defs regs clocks c.args.clock.0) =
    given_first tree.words contents tree.defs clocks c.args.clock.0 parent c.requires.valid c.read_link-parent.ensures.link in
    let fresh : Fresh tree.defs contents (attached clocks c.args.clock.0 parent) c.refresh_from.new.self.rates =
    refreshed tree.words contents tree.defs c.attach.new.self clocks c.args.tree.now.rates c.refresh_from.new.self.rates c.args.clock.0 parent c.requires.valid within
    c.attach.ensures.defs c.attach.ensures.link c.attach.ensures.rates
    (subst (λ (o : Option (List ℕ)). AreKept tree.defs o clocks c.args.tree.now.rates) (sym words) c.requires.kept) c.refresh_from.ensures.rates in
    let rows : c.set_last_request.new.self.clocks ≡ requested (attached clocks c.args.clock.0 parent) c.args.clock.0 (slice_index c.refresh_from.new.self.rates c.args.clock.0) =
    c.set_last_request.ensures.request ∙ ap (λ (rs : List ClockRow). requested rs c.args.clock.0 c.rate-rate.result) (c.refresh_from.ensures.rows ∙ c.attach.ensures.link)
    ∙ ap (λ (r : ℕ). requested (attached clocks c.args.clock.0 parent) c.args.clock.0 r) c.rate-rate.ensures.rate in
    subst (λ (o : Option (List ℕ)). IfSome o (λ regs. c.set_last_request.new.self.clocks ≡ registered_rows tree.defs regs clocks c.args.clock.0)) words
    (subst (λ (rs : List ClockRow). IfSome (option_map (take tree.words) contents) (λ regs. rs ≡ registered_rows tree.defs regs clocks c.args.clock.0)) (sym rows)
    (rows_registered tree.words contents tree.defs clocks c.refresh_from.new.self.rates c.args.clock.0 parent c.requires.valid within chosen fresh))

pub returns-clause-kept : goal.returns-clause-kept
returns-clause-kept g c =
    let tree = c.args.tree.now in
    let clocks = c.args.tree.now.clocks in
    let parent = c.read_link-parent.result in
    let contents = g.B.Bank.contents c.bank-bank.result.now in
    let mid = c.refresh_from.new.self.clocks in
    let many : length c.attach.new.self.clocks ≡ length tree.defs =
    c.attach.ensures.stands.rows ∙ ap (λ (d : Description). length d) c.attach.ensures.defs in
    let within : c.args.clock.0 < length clocks = row_within clocks c.attach.new.self.clocks c.args.clock.0 (length tree.defs) parent c.attach.ensures.link many c.requires.place in
    let words : option_map (take tree.words) contents ≡ c.args.window.now.words =
    ap (λ (n : ℕ). option_map (take n) contents) (sym c.requires.words) ∙ c.bank-bank.ensures.words in
    let inside : c.args.clock.0 < length mid =
    (let many : length mid ≡ length tree.defs = c.refresh_from.ensures.stands.rows ∙ ap (λ (d : Description). length d) (c.refresh_from.ensures.defs ∙ c.attach.ensures.defs) in
    let place = c.requires.place in omega arith) in
    let fresh : Fresh tree.defs contents mid c.refresh_from.new.self.rates =
    subst (λ (rs : List ClockRow). Fresh tree.defs contents rs c.refresh_from.new.self.rates) (sym (c.refresh_from.ensures.rows ∙ c.attach.ensures.link))
    (refreshed tree.words contents tree.defs c.attach.new.self clocks c.args.tree.now.rates c.refresh_from.new.self.rates c.args.clock.0 parent c.requires.valid within
    c.attach.ensures.defs c.attach.ensures.link c.attach.ensures.rates
    (subst (λ (o : Option (List ℕ)). AreKept tree.defs o clocks c.args.tree.now.rates) (sym words) c.requires.kept) c.refresh_from.ensures.rates) in
    subst (λ (o : Option (List ℕ)). AreKept tree.defs o c.set_last_request.new.self.clocks c.set_last_request.new.self.rates) words
    (subst (λ (rs : List ClockRow). AreKept tree.defs (option_map (take tree.words) contents) rs c.set_last_request.new.self.rates) (sym c.set_last_request.ensures.request)
    (subst (λ (found : List ℕ). AreKept tree.defs (option_map (take tree.words) contents) (requested mid c.args.clock.0 c.rate-rate.result) found) (sym c.set_last_request.ensures.rates)
    (kept_registered tree.words contents tree.defs mid c.refresh_from.new.self.rates c.args.clock.0 c.rate-rate.result c.requires.valid inside fresh)))
