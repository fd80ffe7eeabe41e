use Rattle.std.proofs.Common.{◌≡◌, ℕ, ◌-◌, ◌++◌, Option, Some, None, refl, sym, ap, subst, ◌∙◌, arith, take}
use Rattle.std.specs.Option.{option_map}
use Rattle.std.proofs.lemmas.List.{length-set}
use Rattle.clk_base.specs.declared.clock.ClockId.{ClockId}
use Rattle.clk_model.specs.State.{link_in}
use Rattle.clk_model.specs.Tree.{path_within}
use Rattle.core_parts.proofs.Gathering.{places, gathered_none, gathered_more}
use Rattle.core_parts.proofs.gates.gather.Goals as goal

pub loop-place-init : goal.loop-place-init
loop-place-init c = record {
  long = c.told-path;
  few = omega arith;
  path = gathered_none (link_in c.args.tree.now.clocks) c.args.levels c.args.clock.0 c.args.path.now;
  inside = λ defs place links. place;
}

pub returns-then-place-levels-clause-path : goal.returns-then-place-levels-clause-path
returns-then-place-levels-clause-path c =
    c.loop-place.invariant.path
    ∙ ap (λ (n : ℕ). places (take c.loop-place.place c.loop-place.path) ++ path_within (link_in c.args.tree.now.clocks) n c.loop-place.at.0)
    (let at = c.if-place-levels.true in let none : c.args.levels - c.loop-place.place ≡ 0 = omega arith in none)

pub returns-in_default-clause-path : goal.returns-in_default-clause-path
returns-in_default-clause-path c =
    let inv = c.loop-place.invariant in
    let long = inv.long in
    let few = inv.few in
    let room = c.loop-place-test.true in
    let some = c.if-place-levels.false in
    gathered_more (link_in c.args.tree.now.clocks) c.args.levels c.args.clock.0 c.loop-place.place c.loop-place.path c.loop-place.at c.parent.result None
    c.parent.ensures.link c.in_default.is (omega arith) (omega arith) inv.path

pub loop-place-preserved : goal.loop-place-preserved
loop-place-preserved c =
    let inv = c.loop-place.invariant in
    let long = inv.long in
    let few = inv.few in
    let room = c.loop-place-test.true in
    let some = c.if-place-levels.false in
    record {
      long = length-set c.loop-place.path c.loop-place.place c.loop-place.at ∙ inv.long;
      few = omega arith;
      path = gathered_more (link_in c.args.tree.now.clocks) c.args.levels c.args.clock.0 c.loop-place.place c.loop-place.path c.loop-place.at c.parent.result (Some c.in-Some.parent)
          c.parent.ensures.link c.in-Some.is (omega arith) (omega arith) inv.path;
      inside = λ defs place links. links.lie c.loop-place.at.0 c.in-Some.parent.0 (sym c.parent.ensures.link ∙ ap (λ (l : Option ClockId). option_map (λ p. p.0) l) c.in-Some.is);
    }

pub returns-clause-path : goal.returns-clause-path
returns-clause-path c =
    let past = c.loop-place-test.false in
    let most = c.loop-place.auto.place-end in
    let all : c.loop-place.place ≡ 16 = omega arith in
    subst (λ (n : ℕ). path_within (link_in c.args.tree.now.clocks) c.args.levels c.args.clock.0
    ≡ places (take n c.loop-place.path) ++ path_within (link_in c.args.tree.now.clocks) (c.args.levels - n) c.loop-place.at.0) all c.loop-place.invariant.path

pub returns-clause-full : goal.returns-clause-full
returns-clause-full c =
    let past = c.loop-place-test.false in
    let few = c.loop-place.invariant.few in
    (refl, omega arith)

pub returns-clause-inside : goal.returns-clause-inside
returns-clause-inside c = c.loop-place.invariant.inside
