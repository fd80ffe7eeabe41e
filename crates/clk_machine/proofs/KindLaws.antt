-- Answers are of the kind of their event.
use Rattle.std.proofs.Common.{◌≡◌, ℕ, true, List, [], ◌∷◌, ◌++◌, refl, sym, ap, ◌∙◌}
use Rattle.clk_base.specs.declared.call.Sleeping.{Sleeping}
use Rattle.clk_base.specs.declared.call.Sleeping.TheVariants as call
use Rattle.clk_base.specs.declared.call.Micro.{Micro}
use Rattle.clk_base.specs.declared.call.Micro.TheVariants as micro
use Rattle.clk_base.specs.declared.event.Entry.{Entry}
use Rattle.clk_base.specs.declared.event.Event.{Event}
use Rattle.clk_base.specs.declared.event.Reply.TheVariants as reply
use Rattle.clk_base.specs.declared.event.Turn.{Turn}
use Rattle.clk_model.specs.Step.{is_end}
use Rattle.std.specs.Prelude.{not}
use Rattle.core_parts.specs.InFlight.{changes_rate, may_go_on}
use Rattle.clk_machine.specs.Kinds.{is_answer_to, is_reply_to, LastMayAnswer}
use Rattle.clk_machine.specs.Making.{only_goes_on}
use Rattle.clk_machine.proofs.Entering.{entry_of, same_last}

-- a change of a rate or a parent may go on, and may be answered by Ok
pub change_goes : (what : Sleeping) → changes_rate what ≡ true → may_go_on what ≡ true
change_goes (call.SetRate h x) e = refl
change_goes (call.SetRateExclusive h x) e = refl
change_goes (call.SetRange h least most) e = refl
change_goes (call.SetParent h p) e = refl
change_goes _ e = absurd cc

pub change_is_fine : (what : Sleeping) → changes_rate what ≡ true → is_reply_to what reply.Fine ≡ true
change_is_fine (call.SetRate h x) e = refl
change_is_fine (call.SetRateExclusive h x) e = refl
change_is_fine (call.SetRange h least most) e = refl
change_is_fine (call.SetParent h p) e = refl
change_is_fine _ e = absurd cc

-- a step that only goes on isn't the end
pub going_on : (m : Micro) → only_goes_on m ≡ true → not (is_end m) ≡ true
going_on micro.End e = absurd cc
going_on _ e = refl

-- the entry that a journal grew by is of its kind
pub last_kind : (old new : List Entry) (d : ℕ) (e : Event) (t : Turn) → new ≡ old ++ entry_of d e t ∷ [] → is_answer_to e t ≡ true → LastMayAnswer old new t
last_kind old new d e t grew kind last same = ap (λ (x : Entry). is_answer_to x.event t) (sym (same_last old (entry_of d e t) last (sym grew ∙ same))) ∙ kind
