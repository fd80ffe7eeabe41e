use Rattle.std.proofs.Common.{◌≡◌, ◌+◌, ◌<◌, ◌≤◌, ◌^◌, ◌∙◌, sym, ap, subst, take, List, ℕ, Some}
use Rattle.std.specs.Prelude.{IfSome}
use Rattle.std.specs.Option.{option_map}
use Rattle.clk_base.specs.declared.clock.ClockDef.{ClockDef}
use Rattle.clk_base.specs.declared.clock.Kind.{Kind}
use Rattle.clk_base.specs.Description.{kind_of}
use Rattle.clk_base.specs.Fields.{field_of}
use Rattle.clk_model.specs.declared.row.ClockRow.{ClockRow}
use Rattle.rate_planner.specs.Settings.{put_field}
use Rattle.core_parts.specs.Tied.{AreKept}
use Rattle.core_parts.proofs.Described.{valid_over}
use Rattle.core_parts.proofs.Setting.{field_fits, kept_set}
use Rattle.core_parts.proofs.visits.set_to.Goals as goal

pub put_setting-requires : goal.put_setting-requires
put_setting-requires g c =
    let kind = ap (λ (d : ClockDef). d.kind) c.def.ensures.def in
    subst (λ (k : Kind). IfSome (field_of k) (λ f. (f.word < c.args.window.now.size) × (f.shift + f.width ≤ 32) × (c.args.value < 2 ^ f.width))) (sym kind)
    (subst (λ (n : ℕ). IfSome (field_of (kind_of c.args.tree.now.defs c.args.clock.0)) (λ f. (f.word < n) × (f.shift + f.width ≤ 32) × (c.args.value < 2 ^ f.width))) (sym c.requires.words)
    (field_fits c.args.tree.now.words c.args.tree.now.defs c.args.clock.0 c.args.value c.def.ensures.valid c.requires.place c.requires.fits))

pub refresh_from-requires-clause-valid : goal.refresh_from-requires-clause-valid
refresh_from-requires-clause-valid g c =
    let tree = c.args.tree.now in
    valid_over tree.words c.put_setting.new.window.size (g.B.Bank.size c.bank.result.now) tree.defs c.def.ensures.valid (c.put_setting.ensures.size ∙ c.requires.words) c.bank.ensures.fits

pub returns-clause-kept : goal.returns-clause-kept
returns-clause-kept g c =
    let tree = c.args.tree.now in
    let contents = g.B.Bank.contents c.bank.result.now in
    let kind = ap (λ (d : ClockDef). d.kind) c.def.ensures.def in
    let put : c.put_setting.new.window.words ≡ option_map (put_field (kind_of tree.defs c.args.clock.0) (Some c.args.value)) c.args.window.now.words =
    c.put_setting.ensures.words ∙ ap (λ (k : Kind). option_map (put_field k (Some c.args.value)) c.args.window.now.words) kind in
    let words : option_map (take tree.words) contents ≡ c.put_setting.new.window.words =
    ap (λ (n : ℕ). option_map (take n) contents) (sym (c.put_setting.ensures.size ∙ c.requires.words)) ∙ c.bank.ensures.words in
    subst (λ (o : _). AreKept tree.defs o c.refresh_from.new.self.clocks c.refresh_from.new.self.rates) words
    (subst (λ (rs : List ClockRow). AreKept tree.defs (option_map (take tree.words) contents) rs c.refresh_from.new.self.rates) (sym c.refresh_from.ensures.rows)
    (kept_set tree.words contents c.args.window.now.words tree.defs tree.clocks tree.rates c.refresh_from.new.self.rates c.args.clock.0 c.args.value c.def.ensures.valid (words ∙ put) c.requires.fits c.requires.kept c.refresh_from.ensures.rates))
