-- Laws on steps and holds: what each step does to the holds and the links.
use Rattle.std.proofs.Common.{ℕ, inl, inr, Bool, true, false, List, [], Option, refl, ap, subst, nat_eq, ◌≡◌, ◌-◌, ◌∷◌, ◌∙◌}
use Rattle.std.specs.Prelude.{slice_get, slice_set, reverse, length, nat_le, option_map}
use Rattle.clk_base.specs.Levels.{depth}
use Rattle.clk_base.specs.declared.call.Micro.{Micro}
use Rattle.clk_base.specs.declared.call.Micro.TheVariants as micro
use Rattle.clk_base.specs.declared.event.Turn.TheVariants as turn
use Rattle.clk_model.specs.declared.row.ClockRow.{ClockRow}
use Rattle.clk_model.specs.Lists.{without_one}
use Rattle.clk_model.specs.State.{State, Change, row_of, link_in}
use Rattle.clk_model.specs.Tree.{children}
use Rattle.clk_model.specs.Rate.{rate}
use Rattle.clk_model.specs.Chain.{clock_id}
use Rattle.clk_model.specs.Walk.{below_within}
use Rattle.clk_model.specs.Step.{on, timed_out, to_raise, raise_one, raise, poll, is_yes, to_lower, lower_one, lower, passed_over, settle_all, stepped}
use Rattle.clk_model.specs.Begin.{register}
use Rattle.std.proofs.lemmas.Bool.{cases_lt}
use Rattle.std.proofs.lemmas.List.{set_past}
use Rattle.clk_model.proofs.Members.{test_same, test_other, same_from_test}
use Rattle.clk_model.proofs.StateLaws.{row_of-set_same, row_of-set_other}
use Rattle.clk_model.proofs.Cases.{by_option, by_test}

-- ---- what a step does to holds

-- the steps that put, move or end a hold, and the write of a mux between them
abbrev pub is_holding : Micro → Bool
is_holding (micro.HoldPrepare x) = true
is_holding (micro.HoldEnable x) = true
is_holding (micro.Relink c p) = true
is_holding (micro.WriteMux c place) = true
is_holding (micro.DropEnable x) = true
is_holding (micro.DropPrepare x) = true
is_holding _ = false

-- the prepare holds and the enable holds after a step, where a clock that is relinked had this link
abbrev pub held_after_step : (ℕ → Option ℕ) → Micro → List ℕ × List ℕ → List ℕ × List ℕ
held_after_step link (micro.HoldPrepare x) h = (x.0 ∷ h.0, h.1)
held_after_step link (micro.HoldEnable x) h = (h.0, x.0 ∷ h.1)
held_after_step link (micro.Relink c p) h = (passed_over p.0 (link c.0) h.0, passed_over p.0 (link c.0) h.1)
held_after_step link (micro.DropEnable x) h = (h.0, without_one x.0 h.1)
held_after_step link (micro.DropPrepare x) h = (without_one x.0 h.0, h.1)
held_after_step link _ h = h

-- and after steps
abbrev pub held_after_steps : (ℕ → Option ℕ) → List Micro → List ℕ × List ℕ → List ℕ × List ℕ
held_after_steps link [] h = h
held_after_steps link (m ∷ ms) h = held_after_steps link ms (held_after_step link m h)

-- the holds of a state
abbrev pub holds_of : State → List ℕ × List ℕ
holds_of s = (s.prepare_holds, s.enable_holds)

-- whether a step gives the clock another link
abbrev pub relinks : ℕ → Micro → Bool
relinks c (micro.Relink d p) = nat_eq d.0 c
relinks c (micro.Register d) = nat_eq d.0 c
relinks c _ = false

poll_holds : (s : State) (k : Change) (y : ℕ) (b : Bool) → (holds_of (poll s k y b) ≡ holds_of s) × ((poll s k y b).clocks ≡ s.clocks)
poll_holds s k y true = (refl, refl)
poll_holds s k y false =
    by_test (λ u. (holds_of u ≡ holds_of s) × (u.clocks ≡ s.clocks)) (nat_le k.polls 1) (timed_out s (record k { polls = 0 }))
    (on s (record k { polls = k.polls - 1; front = micro.Poll (clock_id y) ∷ k.front })) (refl, refl) (refl, refl)

raise_holds : (s : State) (k : Change) (x : ℕ) → (holds_of (raise s k x) ≡ holds_of s) × ((raise s k x).clocks ≡ s.clocks)
raise_holds s k x =
    by_option (λ u. (holds_of u ≡ holds_of s) × (u.clocks ≡ s.clocks)) (slice_get (reverse (to_raise s k x)) 0) (raise_one s k x) (on s (record k { again = 0 })) (refl, refl) (λ y. (refl, refl))

lower_holds : (s : State) (k : Change) (x : ℕ) → (holds_of (lower s k x) ≡ holds_of s) × ((lower s k x).clocks ≡ s.clocks)
lower_holds s k x =
    by_option (λ u. (holds_of u ≡ holds_of s) × (u.clocks ≡ s.clocks)) (slice_get (to_lower s x) 0) (lower_one s k x) (on s (record k { again = 0 })) (refl, refl) (λ y. (refl, refl))

-- a step does to the holds what it says, where a clock that it relinks has the link that is meant
pub step_holds : (s : State) (k : Change) (answer : Option Bool) (m : Micro) (link : ℕ → Option ℕ) → ((c : ℕ) → relinks c m ≡ true → link_in s.clocks c ≡ link c)
    → (stepped s k answer m).1 ≡ turn.Going → holds_of (stepped s k answer m).0 ≡ held_after_step link m (holds_of s)
unfolding stepped register
step_holds s k answer (micro.Raise x) link same going = (raise_holds s k x.0).0
step_holds s k answer (micro.Poll y) link same going = (poll_holds s k y.0 (is_yes answer)).0
step_holds s k answer (micro.Lower x) link same going = (lower_holds s k x.0).0
step_holds s k answer (micro.Relink c p) link same going =
    ap (λ (o : Option ℕ). let h : List ℕ × List ℕ = (passed_over p.0 o s.prepare_holds, passed_over p.0 o s.enable_holds) in h) (same c.0 (test_same c.0))
step_holds s k answer micro.End link same going = absurd cc
step_holds s k answer m link same going = refl

-- ---- links

link_set_other : (clocks : List ClockRow) (c : ℕ) (row : ClockRow) (d : ℕ) → nat_eq c d ≡ false → link_in (slice_set clocks c row) d ≡ link_in clocks d
link_set_other clocks c row d other = ap (λ (r : ClockRow). option_map (λ p. p.0) r.link) (row_of-set_other clocks c row d (test_other c d other))

pub link_set_same : (clocks : List ClockRow) (c : ℕ) (row : ClockRow) (d : ℕ) → row.link ≡ (row_of clocks c).link → link_in (slice_set clocks c row) d ≡ link_in clocks d
link_set_same clocks c row d same =
    elim (nat_eq c d) as (λ b. nat_eq c d ≡ b → link_in (slice_set clocks c row) d ≡ link_in clocks d) [
      | false ↦ λ e. link_set_other clocks c row d e
      | true ↦ λ e. subst (λ (x : ℕ). link_in (slice_set clocks c row) x ≡ link_in clocks x) (same_from_test c d e) (at_place clocks c)
    ] refl where
      at_place : (rows : List ClockRow) (n : ℕ) → link_in (slice_set clocks c row) c ≡ link_in clocks c
      at_place rows n = elim (cases_lt c (length clocks)) [
        | inl within ↦ ap (λ (r : ClockRow). option_map (λ p. p.0) r.link) (row_of-set_same clocks c row within) ∙ ap (λ o. option_map (λ p. p.0) o) same
        | inr past ↦ ap (λ (rs : List ClockRow). link_in rs c) (set_past clocks c row past)
      ]

-- settling leaves the links
pub settled_links : (s : State) (cs : List ℕ) (d : ℕ) → link_in (settle_all s cs) d ≡ link_in s.clocks d
settled_links s [] d = refl
settled_links s (c ∷ cs) d =
    link_set_same (settle_all s cs) c (record (row_of (settle_all s cs) c) { last_request = rate s.defs s.regs s.clocks c }) d refl ∙ settled_links s cs d

-- a step leaves the link of a clock that it doesn't relink
pub step_links : (s : State) (k : Change) (answer : Option Bool) (m : Micro) (d : ℕ) → relinks d m ≡ false → (stepped s k answer m).1 ≡ turn.Going
    → link_in (stepped s k answer m).0.clocks d ≡ link_in s.clocks d
unfolding stepped register
step_links s k answer (micro.Raise x) d other going = ap (λ (rs : List ClockRow). link_in rs d) (raise_holds s k x.0).1
step_links s k answer (micro.Poll y) d other going = ap (λ (rs : List ClockRow). link_in rs d) (poll_holds s k y.0 (is_yes answer)).1
step_links s k answer (micro.Lower x) d other going = ap (λ (rs : List ClockRow). link_in rs d) (lower_holds s k x.0).1
step_links s k answer (micro.Relink c p) d other going = link_set_other s.clocks c.0 _ d other
step_links s k answer (micro.Register c) d other going = link_set_other s.clocks c.0 _ d other
step_links s k answer (micro.Settle c) d other going = settled_links s (below_within (children s.order s.clocks) depth c.0) d
step_links s k answer micro.End d other going = absurd cc
step_links s k answer m d other going = refl
