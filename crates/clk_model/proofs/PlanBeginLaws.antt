-- Laws on how calls that plan begin: in states that have the same part of the prepare tier they come to the same.
use Rattle.std.proofs.Common.{◌≡◌, ℕ, ◌+◌, Bool, true, false, ◌&&◌, ◌||◌, List, [], ◌∷◌, Option, Some, None, refl, sym, ap, subst, ◌∙◌, length, nat_lt, nat_eq, set}
use Rattle.std.specs.Prelude.{option_map, is_some, filter, if◌then◌else◌}
use Rattle.std.specs.List.{AllByRecursion, list_any}
use Rattle.std.specs.Option.{option_map_or}
use Rattle.clk_base.specs.declared.call.Micro.TheVariants as micro
use Rattle.clk_base.specs.declared.call.Sleeping.{Sleeping}
use Rattle.clk_base.specs.declared.call.Sleeping.TheVariants as call
use Rattle.clk_base.specs.declared.event.Errno.{Errno}
use Rattle.clk_base.specs.declared.event.Errno.TheVariants as errno
use Rattle.clk_base.specs.declared.event.Reply.TheVariants as reply
use Rattle.clk_base.specs.declared.event.Turn.{Turn}
use Rattle.clk_base.specs.declared.handle.Handle.{Handle}
use Rattle.clk_base.specs.Description.{kind_of, parents_of}
use Rattle.clk_base.specs.Flags.{sets_parent_gate}
use Rattle.clk_base.proofs.Valid.{lines_end}
use Rattle.reg_bank.specs.Registers.{Registers}
use Rattle.clk_model.specs.declared.row.HandleRow.{HandleRow}
use Rattle.clk_model.specs.Lists.{is_in, is_at, present}
use Rattle.clk_model.specs.Kinds.{mux_field}
use Rattle.clk_model.specs.State.{State, Change, ChainStep, handle_at}
use Rattle.clk_model.specs.Tree.{rooted}
use Rattle.clk_model.specs.Rate.{rate}
use Rattle.clk_model.specs.Holders.{is_held, prepared, guarded}
use Rattle.clk_model.specs.Round.{Wiring, View, Rounded, rate_in, round, round_rate}
use Rattle.clk_model.specs.Chain.{clock_id, chain, outcome}
use Rattle.clk_model.specs.Views.{view, free_view, lift, lifted_row}
use Rattle.clk_model.specs.Script.{is_raise, notices_of}
use Rattle.clk_model.specs.Begin.{refused, pick, starts, change_along, put_handle, with_handle, request, held_once_more, misses, request_between, range_set, reparenting, parent_set, begun}
use Rattle.clk_model.specs.Prep.{without_enables, prep}
use Rattle.clk_model.specs.Wired.{LinksArePossible}
use Rattle.clk_model.specs.Laws.PlansRead.{plans}
use Rattle.clk_model.specs.Laws.PrepBegins.{ComesAlike, answered, sets_out}
use Rattle.clk_model.proofs.BareHandleLaws.{bare, any_same, set_bare, lift_bare, SameOwn, neither, both_have, own_same}
use Rattle.clk_model.proofs.Members.{both_left, both_right}
use Rattle.clk_model.proofs.PlanLaws.{chains_lead}
use Rattle.clk_model.proofs.PlannedSameLaws.{Rest, beside, SameHere, preparers_same, protectors_same, view_same, free_same, along_same}
use Rattle.clk_model.proofs.AlikeLaws.{rest_of, prep_put}
use Rattle.clk_model.proofs.SameRateLaws.{tree_over, round_same}
use Rattle.clk_model.proofs.SameSettingLaws.{rates_same, tree_rates, IsPossible, outcome_same, possible_in, chain_same}

-- ---- pieces of answers

-- a choice comes to the same where its test does and each of its sides
pub picks : (s t : State) (b b' : Bool) (f f' g g' : Unit {0} → State × Turn) → b' ≡ b → (b ≡ true → ComesAlike s t (f tt) (f' tt)) → (b ≡ false → ComesAlike s t (g tt) (g' tt))
    → ComesAlike s t (pick b f g) (pick b' f' g')
unfolding pick
picks s t b b' f f' g g' is yes_ no_ = subst (λ (e : Bool). ComesAlike s t (pick b f g) (pick e f' g')) (sym is) (both b yes_ no_) where
  both : (e : Bool) → (e ≡ true → ComesAlike s t (f tt) (f' tt)) → (e ≡ false → ComesAlike s t (g tt) (g' tt)) → ComesAlike s t (pick e f g) (pick e f' g')
  both true yes_ no_ = yes_ refl
  both false yes_ no_ = no_ refl

-- a refusal leaves both states
pub refused_both : (s t : State) (e : Errno) → prep t ≡ prep s → ComesAlike s t (refused s e) (refused t e)
refused_both s t e same = answered (reply.Refused e) refl refl same

-- a call on a handle that neither driver has is refused in both; else what holds for each two rows that are the same without enables
pub on_rows : (s t : State) (d n : ℕ) (f f' : HandleRow → State × Turn) → prep t ≡ prep s → bare t.handles ≡ bare s.handles
    → ((row row' : HandleRow) → without_enables row' ≡ without_enables row → ComesAlike s t (f row) (f' row')) → ComesAlike s t (with_handle s d n f) (with_handle t d n f')
on_rows s t d n f f' same handles some = by _ _ (own_same s t d n handles) where
  by : (o o' : Option HandleRow) → SameOwn o o' → ComesAlike s t (option_map_or f o (refused s errno.ENOENT)) (option_map_or f' o' (refused t errno.ENOENT))
  by _ _ neither = refused_both s t errno.ENOENT same
  by _ _ (both_have row row' alike) = some row row' alike

-- ---- requests for a rate

-- a request comes to the same
requests : (s o o' f f' : State) (old new : Registers) (before after lifted lifted' : List (Option HandleRow)) (x y : Rest) (d : ℕ) (what : Sleeping) (c wanted : ℕ) (range : Option (ℕ × ℕ))
    → SameHere s old new before after → bare lifted' ≡ bare lifted → LinksArePossible s.defs s.clocks → prep o' ≡ prep o → prep f' ≡ prep f → prep (beside s new after y) ≡ prep (beside s old before x)
    → x.steps ≡ o.steps → y.steps ≡ o'.steps
    → ComesAlike o o' (request o (beside s old before x) f (beside s old lifted x) d what c wanted range) (request o' (beside s new after y) f' (beside s new lifted' y) d what c wanted range)
requests s o o' f f' old new before after lifted lifted' x y d what c wanted range here lifts links left fine same own own' =
    picks o o' _ _ _ _ _ _ gives (λ e. answered reply.Fine refl refl fine)
    (λ e. picks o o' _ _ _ _ _ _ guards (λ g. refused_both o o' errno.EBUSY left) (λ g. by_chain (chain w low c wanted) (chain v low' c wanted) refl chains)) where
      w : Wiring
      w = tree_over s.defs s.clocks old

      v : Wiring
      v = tree_over s.defs s.clocks new

      low : View
      low = view (beside s old lifted x)

      low' : View
      low' = view (beside s new lifted' y)

      gives : is_at (rate s.defs new s.clocks c) (round_rate v (free_view (beside s new lifted' y) c) c wanted) ≡ is_at (rate s.defs old s.clocks c) (round_rate w (free_view (beside s old lifted x) c) c wanted)
      gives =
          ap (λ (rates : ℕ → ℕ). is_at (rates c) (round_rate v (free_view (beside s new lifted' y) c) c wanted)) (rates_same s.defs s.clocks old new here.regs)
          ∙ ap (λ (u : View). is_at (rate s.defs old s.clocks c) (option_map (λ a. a.rate) (round v u c wanted))) (free_same s old new lifted lifted' x y c lifts)
          ∙ ap (λ (a : Option Rounded). is_at (rate s.defs old s.clocks c) (option_map (λ b. b.rate) a))
          (round_same s.defs s.clocks old new (free_view (beside s old lifted x) c) c wanted (rates_same s.defs s.clocks old new here.regs))

      guards : guarded (beside s new lifted' y) c ≡ guarded (beside s old lifted x) c
      guards = ap (λ (hs : List ℕ). is_held s.clocks hs c) (protectors_same s old new lifted lifted' x y lifts)

      chains : chain v low' c wanted ≡ chain w low c wanted
      chains = ap (λ (u : View). chain v u c wanted) (view_same s old new lifted lifted' x y lifts) ∙ chain_same (length old) s.defs s.clocks old new low c wanted here.valid links here.regs

      by_chain : (a a' : Option (List ChainStep)) → chain w low c wanted ≡ a → a' ≡ a
          → ComesAlike o o' (option_map_or (λ ks. starts o (beside s old before x) (change_along (beside s old before x) d what ks [] range)) a (refused o errno.EINVAL))
          (option_map_or (λ ks. starts o' (beside s new after y) (change_along (beside s new after y) d what ks [] range)) a' (refused o' errno.EINVAL))
      by_chain None None at is = refused_both o o' errno.EINVAL left
      by_chain None (Some ls) at is = absurd cc
      by_chain (Some ks) None at is = absurd cc
      by_chain (Some ks) (Some ls) at is = subst (λ (js : List ChainStep). Begins js) (sym (let both : ls ≡ ks = cc in both))
          (sets_out (beside s old before x) (beside s new after y) (change_along (beside s old before x) d what ks [] range) refl
          (ap (λ (k : Change). starts o' (beside s new after y) k) (along_same s old new before after x y d what ks [] range here possible)) own own' same) where
            Begins : List ChainStep → Type 0
            Begins js = ComesAlike o o' (starts o (beside s old before x) (change_along (beside s old before x) d what ks [] range)) (starts o' (beside s new after y) (change_along (beside s new after y) d what js [] range))

            possible : AllByRecursion (IsPossible s.defs) ks
            possible = possible_in w ks (chains_lead w low c wanted ks (lines_end (length old) s.defs here.valid) links at).leads.parents

-- ---- changes of parent

-- the change that gives a clock another possible parent is the same
reparents_same : (s : State) (old new : Registers) (before after : List (Option HandleRow)) (x y : Rest) (d : ℕ) (what : Sleeping) (c p : ℕ) → SameHere s old new before after → is_in p (parents_of s.defs c) ≡ true
    → reparenting (beside s new after y) d what c p ≡ reparenting (beside s old before x) d what c p
reparents_same s old new before after x y d what c p here m =
    ap (λ (rated : ℕ). with_extra (change_along (beside s new after y) d what (steps rated) (micro.Settle (clock_id c) ∷ []) None)) same_rate
    ∙ ap with_extra (along_same s old new before after x y d what (steps (rate_in (outcome (steps 0) w) c)) (micro.Settle (clock_id c) ∷ []) None here (possible (rate_in (outcome (steps 0) w) c))) where
      w : Wiring
      w = tree_over s.defs s.clocks old

      v : Wiring
      v = tree_over s.defs s.clocks new

      steps : ℕ → List ChainStep
      steps rated = record { clock = c; rate = rated; parent = Some p } ∷ []

      possible : (rated : ℕ) → AllByRecursion (IsPossible s.defs) (steps rated)
      possible rated = ((λ q e. let is : p ≡ q = cc in subst (λ (z : ℕ). is_in z (parents_of s.defs c) ≡ true) is m), tt)

      same_rate : rate_in (outcome (steps 0) v) c ≡ rate_in (outcome (steps 0) w) c
      same_rate = ap (λ (rates : ℕ → ℕ). rates c)
          (tree_rates (outcome (steps 0) v) (outcome (steps 0) w) (outcome_same (length old) (steps 0) v w here.valid (possible 0) (record { defs = refl; clocks = refl; regs = here.regs })))

      with_extra : Change → Change
      with_extra k = record k { extra = if list_any is_raise k.left then notices_of s k.changing else 0 }

-- and so is how it begins
reparenting_same : (s : State) (old new : Registers) (before after lifted lifted' : List (Option HandleRow)) (x y : Rest) (d : ℕ) (what : Sleeping) (c p : ℕ)
    → SameHere s old new before after → bare lifted' ≡ bare lifted → prep (beside s new after y) ≡ prep (beside s old before x)
    → ComesAlike (beside s old before x) (beside s new after y) (parent_set (beside s old before x) (beside s old lifted x) d what c p) (parent_set (beside s new after y) (beside s new lifted' y) d what c p)
reparenting_same s old new before after lifted lifted' x y d what c p here lifts same =
    picks n n' _ _ _ _ _ _ refl (λ e. answered reply.Fine refl refl same)
    (λ e. picks n n' _ _ _ _ _ _ refl (λ f. refused_both n n' errno.EPERM same)
    (λ f. picks n n' _ _ _ _ _ _ busy (λ g. refused_both n n' errno.EBUSY same)
    (λ g. picks n n' _ _ _ _ _ _ refl
    (λ h.
    let m : is_in p (parents_of s.defs c) ≡ true =
    both_right (is_some (mux_field (kind_of s.defs c))) (is_in p (parents_of s.defs c)) (both_left (is_some (mux_field (kind_of s.defs c)) && is_in p (parents_of s.defs c)) (rooted s.defs s.clocks p) h) in
    sets_out n n' (reparenting n d what c p) refl (ap (λ (k : Change). starts n' n' k) (reparents_same s old new before after x y d what c p here m)) refl refl same)
    (λ h. refused_both n n' errno.EINVAL same)))) where
      n : State
      n = beside s old before x

      n' : State
      n' = beside s new after y

      busy : ((sets_parent_gate s.defs c && prepared (beside s new after y) c) || guarded (beside s new lifted' y) c) ≡ ((sets_parent_gate s.defs c && prepared (beside s old before x) c) || guarded (beside s old lifted x) c)
      busy =
          ap (λ (hs : List ℕ). (sets_parent_gate s.defs c && is_held s.clocks hs c) || guarded (beside s new lifted' y) c) (preparers_same s old new before after x y here.handles)
          ∙ ap (λ (hs : List ℕ). (sets_parent_gate s.defs c && prepared (beside s old before x) c) || is_held s.clocks hs c) (protectors_same s old new lifted lifted' x y lifts)

-- ---- calls

pub clock_same : (row row' : HandleRow) → without_enables row' ≡ without_enables row → row'.clock.0 ≡ row.clock.0
clock_same row row' alike = ap (λ (h : HandleRow). h.clock.0) alike

-- handles in which the one of a number gets this range
abbrev ranged : List (Option HandleRow) → ℕ → HandleRow → ℕ → ℕ → List (Option HandleRow)
ranged handles n row least most = set handles n (Some (record row { min = least; max = most }))

abbrev lifted_in : List (Option HandleRow) → ℕ → List (Option HandleRow)
lifted_in handles n = set handles n (option_map lifted_row (handle_at handles n))

misses_same : (q : State) (new : Registers) (after : List (Option HandleRow)) (y : Rest) (n : ℕ) (row row' : HandleRow) (least most : ℕ) → bare after ≡ bare q.handles → without_enables row' ≡ without_enables row
    → misses (beside q new after y) n row' least most ≡ misses q n row least most
misses_same q new after y n row row' least most same alike =
    ap (λ (c : ℕ). misses_on after c) (clock_same row row' alike)
    ∙ ap (λ (b : Bool). nat_lt most least || b)
    (any_same {X = ℕ × ℕ} (λ h. (h.max, h.min)) (λ r. nat_lt r.0 least || nat_lt most r.1) (λ h. nat_eq h.clock.0 row.clock.0) (set q.handles n None) (set after n None) (λ h. refl) (λ h. refl)
    (set_bare q.handles after n None None same refl)) where
      misses_on : List (Option HandleRow) → ℕ → Bool
      misses_on handles c = nat_lt most least || list_any (λ h. nat_lt h.max least || nat_lt most h.min) (filter (λ h. nat_eq h.clock.0 c) (present (set handles n None)))

module _ (s : State) (new : Registers) (after : List (Option HandleRow)) (y : Rest) (d : ℕ) (here : SameHere s s.regs new s.handles after) (links : LinksArePossible s.defs s.clocks)
    (same : prep (beside s new after y) ≡ prep s) where
  abbrev t : State
  t = beside s new after y

  planned_range : (h : Handle) (least most : ℕ) (row row' : HandleRow) → without_enables row' ≡ without_enables row
      → ComesAlike s t (range_set s d (call.SetRange h least most) h.number row least most) (range_set t d (call.SetRange h least most) h.number row' least most)
  planned_range h least most row row' alike =
      picks s t _ _ _ _ _ _ (misses_same s new after y h.number row row' least most here.handles alike) (λ e. refused_both s t errno.EINVAL same)
      (λ e. subst (λ (b : ℕ × ℕ). ComesAlike s t (request s n n (lift n h.number) d what row.clock.0 wanted (Some (row.min, row.max)))
      (request t n' n' (lift n' h.number) d what row'.clock.0 (request_between s.clocks row'.clock.0 least most) (Some b))) (sym (ap (λ (a : HandleRow). (a.min, a.max)) alike))
      (subst (λ (c : ℕ). ComesAlike s t (request s n n (lift n h.number) d what row.clock.0 wanted (Some (row.min, row.max)))
      (request t n' n' (lift n' h.number) d what c (request_between s.clocks c least most) (Some (row.min, row.max)))) (sym (clock_same row row' alike))
      (requests s s t n n' s.regs new (ranged s.handles h.number row least most) (ranged after h.number row' least most) (lifted_in (ranged s.handles h.number row least most) h.number)
      (lifted_in (ranged after h.number row' least most) h.number) (rest_of s) y d what row.clock.0 wanted (Some (row.min, row.max))
      (record { valid = here.valid; regs = here.regs; handles = ranges }) (lift_bare (ranged s.handles h.number row least most) (ranged after h.number row' least most) h.number ranges)
      links same puts puts refl refl))) where
        what : Sleeping
        what = call.SetRange h least most

        wanted : ℕ
        wanted = request_between s.clocks row.clock.0 least most

        n : State
        n = put_handle s h.number (Some (record row { min = least; max = most }))

        n' : State
        n' = put_handle t h.number (Some (record row' { min = least; max = most }))

        one : option_map without_enables (Some (record row' { min = least; max = most })) ≡ option_map without_enables (Some (record row { min = least; max = most }))
        one = ap (λ (a : HandleRow). let b : HandleRow = record a { min = least; max = most } in Some b) alike

        ranges : bare (ranged after h.number row' least most) ≡ bare (ranged s.handles h.number row least most)
        ranges = set_bare s.handles after h.number (Some (record row { min = least; max = most })) (Some (record row' { min = least; max = most })) here.handles one

        puts : prep n' ≡ prep n
        puts = prep_put s t h.number (Some (record row { min = least; max = most })) (Some (record row' { min = least; max = most })) same here.handles one

  lifts : (number : ℕ) → bare (lifted_in after number) ≡ bare (lifted_in s.handles number)
  lifts number = lift_bare s.handles after number here.handles

  -- a call that plans comes to the same
  pub planned_call : (what : Sleeping) → plans what ≡ true → ComesAlike s t (begun s d what) (begun t d what)
  unfolding begun
  planned_call (call.SetRate h r) is =
      on_rows s t d h.number _ _ same here.handles (λ row row' alike.
      subst (λ (c : ℕ). ComesAlike s t (request s s s (lift s h.number) d (call.SetRate h r) row.clock.0 r None) (request t t t (lift t h.number) d (call.SetRate h r) c r None)) (sym (clock_same row row' alike))
      (requests s s t s t s.regs new s.handles after (lifted_in s.handles h.number) (lifted_in after h.number) (rest_of s) y d (call.SetRate h r) row.clock.0 r None here (lifts h.number) links same same same refl refl))
  planned_call (call.SetRateExclusive h r) is =
      on_rows s t d h.number _ _ same here.handles (λ row row' alike.
      subst (λ (c : ℕ). ComesAlike s t (request s s (held_once_more s h.number row) s d (call.SetRateExclusive h r) row.clock.0 r None)
      (request t t (held_once_more t h.number row') t d (call.SetRateExclusive h r) c r None)) (sym (clock_same row row' alike))
      (requests s s t (held_once_more s h.number row) (held_once_more t h.number row') s.regs new s.handles after s.handles after (rest_of s) y d (call.SetRateExclusive h r) row.clock.0 r None
      here here.handles links same (prep_put s t h.number (Some (record row { exclusives = row.exclusives + 1 })) (Some (record row' { exclusives = row'.exclusives + 1 })) same here.handles
      (ap (λ (a : HandleRow). let b : HandleRow = record a { exclusives = a.exclusives + 1 } in Some b) alike)) same refl refl))
  planned_call (call.SetRange h least most) is = on_rows s t d h.number _ _ same here.handles (planned_range h least most)
  planned_call (call.SetParent h p) is =
      on_rows s t d h.number _ _ same here.handles (λ row row' alike.
      subst (λ (c : ℕ). ComesAlike s t (parent_set s (lift s h.number) d (call.SetParent h p) row.clock.0 p.0) (parent_set t (lift t h.number) d (call.SetParent h p) c p.0)) (sym (clock_same row row' alike))
      (reparenting_same s s.regs new s.handles after (lifted_in s.handles h.number) (lifted_in after h.number) (rest_of s) y d (call.SetParent h p) row.clock.0 p.0 here (lifts h.number) same))
  planned_call what is = absurd cc
