-- The field of a mux lies in the bank.
use Rattle.std.proofs.Common.{◌<◌, ◌∙◌, sym, ap, arith}
use Rattle.clk_base.specs.Description.{parents_of}
use Rattle.clk_base.specs.declared.clock.ClockDef.{ClockDef}
use Rattle.orphans.proofs.LinkLaws.{mux_lies, found_possible}
use Rattle.orphans.proofs.link.selected.Goals as goal

pub read_field-place-requires-clause-word : goal.read_field-place-requires-clause-word
read_field-place-requires-clause-word g c =
    let d = c.args.desc.now in
    let lies = mux_lies (g.B.Bank.size c.args.bank.now) d.defs c.args.clock.0 c.in-Mux.word c.in-Mux.shift c.in-Mux.width c.in-Mux.read_only c.requires.valid c.requires.place
    (sym (ap (λ (x : ClockDef). x.kind) c.def.ensures.def) ∙ c.in-Mux.is) in
    let inside : c.in-Mux.word < g.B.Bank.size c.args.bank.now = lies.0 in
    omega arith

pub read_field-place-requires-clause-inside : goal.read_field-place-requires-clause-inside
read_field-place-requires-clause-inside g c =
    let d = c.args.desc.now in
    (mux_lies (g.B.Bank.size c.args.bank.now) d.defs c.args.clock.0 c.in-Mux.word c.in-Mux.shift c.in-Mux.width c.in-Mux.read_only c.requires.valid c.requires.place
    (sym (ap (λ (x : ClockDef). x.kind) c.def.ensures.def) ∙ c.in-Mux.is)).1

pub returns-clause-possible : goal.returns-clause-possible
returns-clause-possible g c =
    found_possible (parents_of c.args.desc.now.defs c.args.clock.0) c.match-def.place c.parent_at.result c.parent_at.ensures
