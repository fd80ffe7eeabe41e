-- Laws on what each step of a plan makes of the tree of a state, and puts in front of the script.
use Rattle.std.proofs.Common.{◌≡◌, ℕ, zero, suc, ◌+◌, ◌-◌, Bool, true, false, cond, List, [], ◌∷◌, ◌++◌, Option, Some, None, refl, sym, ap, subst, ◌⊎◌, inl, inr, arith, length, nat_le, map, true≢false}
use Rattle.std.specs.Prelude.{slice_get, slice_set, slice_index, reverse, option_map, find, if◌then◌else◌, ◌==◌}
use Rattle.std.specs.List.{list_all}
use Rattle.std.specs.Option.{option_map_or}
use Rattle.std.proofs.lemmas.Bool.{and_from}
use Rattle.clk_base.specs.declared.call.Micro.{Micro}
use Rattle.clk_base.specs.declared.call.Micro.TheVariants as micro
use Rattle.clk_base.specs.declared.call.Notice.TheVariants as notice
use Rattle.clk_base.specs.declared.clock.ClockId.{ClockId}
use Rattle.clk_base.specs.declared.event.Turn.TheVariants as turn
use Rattle.clk_base.specs.Description.{kind_of}
use Rattle.clk_base.specs.Fields.{Field, PowerBit, bit_field, power_of}
use Rattle.clk_base.specs.Valid.{IsValid}
use Rattle.clk_base.proofs.Valid.{field-field, power-field}
use Rattle.reg_bank.specs.Registers.{Registers, field, put_bit}
use Rattle.reg_bank.proofs.BitLaws.{length-put_bit}
use Rattle.clk_model.specs.declared.row.ClockRow.{ClockRow}
use Rattle.clk_model.specs.Kinds.{with_power}
use Rattle.clk_model.specs.State.{State, Change, NotifierRow, row_of, link_in}
use Rattle.clk_base.specs.Levels.{depth}
use Rattle.clk_model.specs.Tree.{children}
use Rattle.clk_model.specs.Walk.{below_within}
use Rattle.clk_model.specs.Rate.{rate}
use Rattle.clk_model.specs.Lists.{is_at}
use Rattle.clk_model.specs.Round.{wiring, parent_rate_in}
use Rattle.clk_model.specs.Chain.{clock_id, setting}
use Rattle.clk_model.specs.Notices.{Rates, notifiers_of, post_list}
use Rattle.clk_model.specs.Step.{missed_by, cut_short, aborts_of, on, powered, timed_out, to_raise, raise_one, raise, poll, is_yes, to_lower, lower_one, lower, set_in_chain, visit, stepped}
use Rattle.clk_model.specs.Prep.{prep}
use Rattle.clk_model.specs.Laws.Outcomes.{SameSettings}
use Rattle.clk_model.specs.Laws.Plans.{LieApart}
use Rattle.clk_model.proofs.ActedLaws.{act, writes_fit, same_settings}
use Rattle.clk_model.proofs.ApartLaws.{fields_apart}
use Rattle.clk_model.proofs.Cases.{by_option, by_test}
use Rattle.clk_model.proofs.OutcomeLaws.{field-put_outside}
use Rattle.clk_model.proofs.PlansReadLaws.{same_here}
use Rattle.clk_model.proofs.HoldSteps.{settled_links}
use Rattle.clk_model.proofs.ShapeLaws.{length-settle_all}

-- ---- states

-- states with the same part of the prepare tier have the same settings
pub prep_settings : (s t : State) → IsValid (length s.regs) s.defs → prep t ≡ prep s → SameSettings (wiring t) (wiring s)
unfolding prep
prep_settings s t valid same =
    let here = same_here s t valid same in
    record {
      defs = ap (λ (u : State). u.defs) same;
      rows = ap (λ (u : State). length u.clocks) same;
      words = here.regs.words;
      links = λ c. ap (λ (u : State). link_in u.clocks c) same;
      fields = here.regs.fields;
    }

-- ---- power bits and last requests

length-power : (o : Option PowerBit) (regs : Registers) (up : Bool) → length (option_map_or (λ power. with_power regs power up) o regs) ≡ length regs
length-power None regs up = refl
length-power (Some power) regs up = length-put_bit regs power.word power.bit up

field-power : (o : Option PowerBit) (regs : Registers) (up : Bool) (f : Field) → ((power : PowerBit) → o ≡ Some power → LieApart f (bit_field power.word power.bit))
    → field (option_map_or (λ power. with_power regs power up) o regs) f.word f.shift f.width ≡ field regs f.word f.shift f.width
unfolding put_bit
field-power None regs up f apart = refl
field-power (Some power) regs true f apart = field-put_outside regs f (bit_field power.word power.bit) 1 (apart power refl) (omega arith)
field-power (Some power) regs false f apart = field-put_outside regs f (bit_field power.word power.bit) 0 (apart power refl) (omega arith)

-- a power bit is no setting
power_settings : (s : State) (y : ℕ) (up : Bool) → IsValid (length s.regs) s.defs → SameSettings (wiring (powered s y up)) (wiring s)
power_settings s y up valid = record {
  defs = refl;
  rows = refl;
  words = length-power (power_of (kind_of s.defs y)) s.regs up;
  links = λ c. refl;
  fields = λ c f at. field-power (power_of (kind_of s.defs y)) s.regs up f
      (λ power has. fields_apart (length s.regs) s.defs valid c 0 f y 1 (bit_field power.word power.bit) (field-field (kind_of s.defs c) f at) (power-field (kind_of s.defs y) power has)
      (λ same equal. omega arith));
}

pub link_row : (clocks : List ClockRow) (c : ℕ) (row : ClockRow) → row.link ≡ (row_of clocks c).link → (d : ℕ) → link_in (slice_set clocks c row) d ≡ link_in clocks d
link_row [] c row same d = refl
link_row (r ∷ clocks) zero row same zero = ap (λ (o : Option ClockId). option_map (λ p. p.0) o) same
link_row (r ∷ clocks) zero row same (suc d) = refl
link_row (r ∷ clocks) (suc c) row same zero = refl
link_row (r ∷ clocks) (suc c) row same (suc d) = link_row clocks c row same d

-- ---- what a step leaves of a tree

-- the tree after a step is what the step makes of it
pub step_tree : (s : State) (k : Change) (answer : Option Bool) (m : Micro) → IsValid (length s.regs) s.defs → writes_fit s.defs m ≡ true → k.missed ≡ None → (stepped s k answer m).1 ≡ turn.Going
    → SameSettings (wiring (stepped s k answer m).0) (act k.chain m (wiring s))
unfolding stepped
step_tree s k answer (micro.Notify kind c id old new) valid fits planned going = same_settings (wiring s)
step_tree s k answer (micro.Raise x) valid fits planned going =
    by_option (λ u. SameSettings (wiring u) (wiring s)) (slice_get (reverse (to_raise s k x.0)) 0) (raise_one s k x.0) (on s (record k { again = 0 })) (same_settings (wiring s)) (λ y. power_settings s y true valid)
step_tree s k answer (micro.Poll y) valid fits planned going = polled (is_yes answer) where
  polled : (b : Bool) → SameSettings (wiring (poll s k y.0 b)) (wiring s)
  polled true = same_settings (wiring s)
  polled false = by_test (λ u. SameSettings (wiring u) (wiring s)) (nat_le k.polls 1) (timed_out s (record k { polls = 0 })) (on s (record k { polls = k.polls - 1; front = micro.Poll (clock_id y.0) ∷ k.front }))
      (same_settings (wiring s)) (same_settings (wiring s))
step_tree s k answer (micro.Fall y) valid fits planned going = power_settings s y.0 false valid
step_tree s k answer (micro.HoldPrepare x) valid fits planned going = same_settings (wiring s)
step_tree s k answer (micro.HoldEnable x) valid fits planned going = same_settings (wiring s)
step_tree s k answer (micro.Relink c p) valid fits planned going = same_settings (act k.chain (micro.Relink c p) (wiring s))
step_tree s k answer (micro.WriteMux c place) valid fits planned going = same_settings (act k.chain (micro.WriteMux c place) (wiring s))
step_tree s k answer (micro.DropEnable x) valid fits planned going = same_settings (wiring s)
step_tree s k answer (micro.DropPrepare x) valid fits planned going = same_settings (wiring s)
step_tree s k answer (micro.Lower x) valid fits planned going =
    by_option (λ u. SameSettings (wiring u) (wiring s)) (slice_get (to_lower s x.0) 0) (lower_one s k x.0) (on s (record k { again = 0 })) (same_settings (wiring s)) (λ y. power_settings s y false valid)
step_tree s k answer (micro.Visit c) valid fits planned going =
    subst (λ (o : Option ℕ). SameSettings
    (record (wiring s) { regs = option_map_or (λ r. setting (kind_of s.defs c.0) (parent_rate_in (wiring s) c.0) r s.regs) (if is_at c.0 o then None else option_map (λ step. step.rate) (find (λ step. step.clock == c.0) k.chain)) s.regs })
    (act k.chain (micro.Visit c) (wiring s))) (sym planned) (same_settings (act k.chain (micro.Visit c) (wiring s)))
step_tree s k answer (micro.Register c) valid fits planned going = absurd (true≢false (sym fits))
step_tree s k answer (micro.Settle c) valid fits planned going =
    record { defs = refl; rows = length-settle_all s (below_within (children s.order s.clocks) depth c.0); words = refl; links = λ d. settled_links s (below_within (children s.order s.clocks) depth c.0) d; fields = λ d f at. refl }
step_tree s k answer (micro.Close c) valid fits planned going = absurd (true≢false (sym fits))
step_tree s k answer (micro.Unpower c) valid fits planned going = absurd (true≢false (sym fits))
step_tree s k answer micro.End valid fits planned going = absurd cc

-- ---- what a step puts in front

-- whether a step is one that is put in front while nothing is late: a notice, a raise, a poll or a lower
abbrev pub is_light : Micro → Bool
is_light (micro.Notify kind c id old new) = true
is_light (micro.Raise x) = true
is_light (micro.Poll x) = true
is_light (micro.Lower x) = true
is_light _ = false

-- a step puts such steps in front of what was there, and leaves the script, or it is late
pub record Adds (k : Change) (o : Option Change) : Type 0 where
  pub after : Change
  pub is : o ≡ Some after
  pub either : (after.timed_out ≡ true)
      ⊎ ((added : List Micro) × (after.front ≡ added ++ k.front) × (list_all is_light added ≡ true) × (after.left ≡ k.left))

-- nothing is put in front
adds_none : (k : Change) (raised : List ℕ) (polls again : ℕ) → Adds k (Some (record k { raised = raised; polls = polls; again = again }))
adds_none k raised polls again = record { after = record k { raised = raised; polls = polls; again = again }; is = refl; either = inr ([], refl, refl, refl) }

light_if : (t : Bool) (m : Micro) → is_light m ≡ true → list_all is_light (cond t (m ∷ []) []) ≡ true
light_if true m e = and_from (is_light m) true e refl
light_if false m e = refl

posts_light : (rates : Rates) (c : ℕ) (ns : List NotifierRow) → list_all is_light (map (λ n. micro.Notify notice.Post (clock_id c) n.id (slice_index rates.before c) (slice_index rates.outcome c)) ns) ≡ true
posts_light rates c [] = refl
posts_light rates c (n ∷ ns) = posts_light rates c ns

visit_adds : (s : State) (k : Change) (c : ℕ) → Adds k (visit s k c).change
visit_adds s k c =
    let rates : Rates = record { before = k.before; outcome = k.outcome } in
    let same : Bool = rate s.defs (set_in_chain s k c) s.clocks c == slice_index k.before c in
    record {
      after = record k { front = cond same [] (post_list rates s.notifiers c) ++ k.front };
      is = refl;
      either = inr (cond same [] (post_list rates s.notifiers c), refl, by same, refl);
    } where
      by : (t : Bool) → list_all is_light (cond t [] (post_list (record { before = k.before; outcome = k.outcome }) s.notifiers c)) ≡ true
      by true = refl
      by false = posts_light (record { before = k.before; outcome = k.outcome }) c (notifiers_of s.notifiers c)

raise_adds : (s : State) (k : Change) (x : ℕ) → Adds k (raise s k x).change
raise_adds s k x =
    by_option (λ u. Adds k u.change) (slice_get (reverse (to_raise s k x)) 0) (raise_one s k x) (on s (record k { again = 0 })) (adds_none k k.raised k.polls 0)
    (λ y. record {
      after = record k {
        raised = y ∷ k.raised;
        polls = 32;
        again = cond (nat_le 2 (length (to_raise s k x))) (k.again + 1) 0;
        front = micro.Poll (clock_id y) ∷ (cond (nat_le 2 (length (to_raise s k x))) (micro.Raise (clock_id x) ∷ []) []) ++ k.front;
      };
      is = refl;
      either = inr (micro.Poll (clock_id y) ∷ cond (nat_le 2 (length (to_raise s k x))) (micro.Raise (clock_id x) ∷ []) [], refl, light_if (nat_le 2 (length (to_raise s k x))) (micro.Raise (clock_id x)) refl, refl);
    })

lower_adds : (s : State) (k : Change) (x : ℕ) → Adds k (lower s k x).change
lower_adds s k x =
    by_option (λ u. Adds k u.change) (slice_get (to_lower s x) 0) (lower_one s k x) (on s (record k { again = 0 })) (adds_none k k.raised k.polls 0)
    (λ y. record {
      after = record k {
        again = cond (nat_le 2 (length (to_lower s x))) (k.again + 1) 0;
        front = (cond (nat_le 2 (length (to_lower s x))) (micro.Lower (clock_id x) ∷ []) []) ++ k.front;
      };
      is = refl;
      either = inr (cond (nat_le 2 (length (to_lower s x))) (micro.Lower (clock_id x) ∷ []) [], refl, light_if (nat_le 2 (length (to_lower s x))) (micro.Lower (clock_id x)) refl, refl);
    })

poll_adds : (s : State) (k : Change) (y : ℕ) (b : Bool) → Adds k (poll s k y b).change
poll_adds s k y true = adds_none k k.raised 0 k.again
poll_adds s k y false =
    by_test (λ u. Adds k u.change) (nat_le k.polls 1) (timed_out s (record k { polls = 0 })) (on s (record k { polls = k.polls - 1; front = micro.Poll (clock_id y) ∷ k.front }))
    (record {
      after = record k {
        polls = 0;
        timed_out = true;
        again = 0;
        extra = 0;
        front = map (λ z. micro.Fall (clock_id z)) k.raised ++ aborts_of s (record k { polls = 0 });
        left = cut_short k.call k.left;
        missed = missed_by k.call k.left;
      };
      is = refl;
      either = inl refl;
    })
    (record { after = record k { polls = k.polls - 1; front = micro.Poll (clock_id y) ∷ k.front }; is = refl; either = inr (micro.Poll (clock_id y) ∷ [], refl, refl, refl) })

-- so does each step
pub step_adds : (s : State) (k : Change) (answer : Option Bool) (m : Micro) → (stepped s k answer m).1 ≡ turn.Going → Adds k (stepped s k answer m).0.change
unfolding stepped
step_adds s k answer (micro.Raise x) going = raise_adds s k x.0
step_adds s k answer (micro.Poll y) going = poll_adds s k y.0 (is_yes answer)
step_adds s k answer (micro.Lower x) going = lower_adds s k x.0
step_adds s k answer (micro.Visit c) going = visit_adds s k c.0
step_adds s k answer (micro.Fall y) going = adds_none k _ k.polls k.again
step_adds s k answer (micro.HoldPrepare x) going = adds_none k _ k.polls k.again
step_adds s k answer (micro.Register c) going = adds_none k _ k.polls k.again
step_adds s k answer micro.End going = absurd cc
step_adds s k answer m going = adds_none k k.raised k.polls k.again
