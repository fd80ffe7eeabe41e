-- The set of names has the name where a clock has it, and gets it with the clock.
use Rattle.std.proofs.Common.{sym, ◌∙◌, refl}
use Rattle.std.proofs.lemmas.Result.{err_from_is_err_and}
use Rattle.clk_base.proofs.Names.{found-has_name, IsNamed-push, not_twice_named, named_apart}
use Rattle.clk_base.proofs.desc.Desc.add.Goals as goal

pub returns-then-contains-clause-twice_named : goal.returns-then-contains-clause-twice_named
returns-then-contains-clause-twice_named c =
    let had = found-has_name c.self.inside.names.keys c.self.inside.defs.items c.args.self.now c.args.def.name c.as_str.result.now c.contains.result c.self.invariant.texts_are c.self.view_is c.as_str.ensures c.contains.ensures in
    (λ _. sym had ∙ c.if-contains.true, λ _. refl)

pub returns-in_err-name-clause-twice_named : goal.returns-in_err-name-clause-twice_named
returns-in_err-name-clause-twice_named c =
    let had = found-has_name c.self.inside.names.keys c.self.inside.defs.items c.args.self.now c.args.def.name c.as_str.result.now c.contains.result c.self.invariant.texts_are c.self.view_is c.as_str.ensures c.contains.ensures in
    let p = err_from_is_err_and c.from_residual.result c.from_residual.ensures.1 in
    not_twice_named _ c.from_residual.result p.0 (sym had ∙ c.if-contains.false) p.1 p.2

pub returns-in_err-reserve-clause-twice_named : goal.returns-in_err-reserve-clause-twice_named
returns-in_err-reserve-clause-twice_named c =
    let had = found-has_name c.self.inside.names.keys c.self.inside.defs.items c.args.self.now c.args.def.name c.as_str.result.now c.contains.result c.self.invariant.texts_are c.self.view_is c.as_str.ensures c.contains.ensures in
    let p = err_from_is_err_and c.from_residual-in_err-reserve.result c.from_residual-in_err-reserve.ensures.1 in
    not_twice_named _ c.from_residual-in_err-reserve.result p.0 (sym had ∙ c.if-contains.false) p.1 p.2

pub returns-in_err-insert-clause-twice_named : goal.returns-in_err-insert-clause-twice_named
returns-in_err-insert-clause-twice_named c =
    let had = found-has_name c.self.inside.names.keys c.self.inside.defs.items c.args.self.now c.args.def.name c.as_str.result.now c.contains.result c.self.invariant.texts_are c.self.view_is c.as_str.ensures c.contains.ensures in
    let p = err_from_is_err_and c.from_residual-in_err-insert.result c.from_residual-in_err-insert.ensures.1 in
    not_twice_named _ c.from_residual-in_err-insert.result p.0 (sym had ∙ c.if-contains.false) p.1 p.2

pub invariant_of-self-2 : goal.invariant_of-self-2
invariant_of-self-2 c =
    let had = found-has_name c.self.inside.names.keys c.self.inside.defs.items c.self.inside.defs.items c.args.def.name c.as_str.result.now c.contains.result c.self.invariant.texts_are refl c.as_str.ensures c.contains.ensures in
    rw (c.push_reserved.ensures, c.reserve.ensures.items)
    (IsNamed-push c.self.inside.names.keys c.insert.new.self.keys c.in_ok-name.name c.self.inside.defs.items c.args.def c.self.invariant (c.in_ok-name.ensures.ok ∙ c.as_str-2.ensures) (sym had ∙ c.if-contains.false) (rw c.self.view_is c.requires) c.in_ok-insert.ensures.keys)

pub returns-clause-twice_named : goal.returns-clause-twice_named
returns-clause-twice_named c =
    let had = found-has_name c.self.inside.names.keys c.self.inside.defs.items c.args.self.now c.args.def.name c.as_str.result.now c.contains.result c.self.invariant.texts_are c.self.view_is c.as_str.ensures c.contains.ensures in
    named_apart _ (record { 0 = c.len-place.result }) (sym had ∙ c.if-contains.false)
