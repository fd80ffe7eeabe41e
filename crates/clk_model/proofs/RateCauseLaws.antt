-- Calls on handles, prepares and rates begin for their causes.
use Rattle.std.proofs.Common.{◌≡◌, ℕ, true, false, List, [], ◌∷◌, Option, Some, None, refl, sym, ap, subst, ◌∙◌}
use Rattle.std.specs.Prelude.{option_map, filter}
use Rattle.std.specs.Option.{option_map_or}
use Rattle.clk_base.specs.declared.call.Micro.TheVariants as micro
use Rattle.clk_base.specs.declared.call.Sleeping.{Sleeping}
use Rattle.clk_base.specs.declared.clock.ClockId.{ClockId}
use Rattle.clk_base.specs.declared.event.Errno.TheVariants as errno
use Rattle.clk_base.specs.declared.event.Reply.TheVariants as reply
use Rattle.clk_base.specs.declared.event.Turn.{Turn}
use Rattle.clk_base.specs.declared.event.Turn.TheVariants as turn
use Rattle.clk_model.specs.declared.row.HandleRow.{HandleRow}
use Rattle.clk_model.specs.State.{State, Change, ChainStep}
use Rattle.clk_model.specs.Tree.{path, rooted}
use Rattle.clk_model.specs.Rate.{rate}
use Rattle.clk_model.specs.Holders.{guarded}
use Rattle.clk_model.specs.Round.{wiring, round_rate}
use Rattle.clk_model.specs.Chain.{chain}
use Rattle.clk_model.specs.Views.{view, free_view, lift}
use Rattle.clk_model.specs.Script.{unprepared_plls, runs}
use Rattle.clk_model.specs.Begin.{done, refused, starts, change_of, change_along, got, put_back, prepare, unprepare, rounded, request, range_set, request_between}
use Rattle.clk_model.specs.Laws.Causes.{KeepsPrepare}
use Rattle.clk_model.specs.Laws.CallCauses.{Comes, refusal, fine, warned, HasRoom, GetTurns, PutTurns, NoneToRaise, PrepareTurns, one_less, NoneToLower, UnprepareTurns, RoundTurns, KeepsRate, HasPlan, RequestTurns, with_limits, RangeTurns}
use Rattle.clk_model.proofs.CauseLaws.{keeps_tells, holds_tells}
use Rattle.clk_model.proofs.TierLaws.{pick_either}
use Rattle.clk_model.proofs.TurnLaws.{came, not_came, not_at, some_first, started, rest_is, no_answer, rest_not, HowStarted, short, roomy, Known}
use Rattle.clk_model.proofs.BeginSafeLaws.{first_none}
use Rattle.clk_model.proofs.WalkLaws.{is_at_same}

-- ---- handles

pub get_turns : (s : State) (d : ℕ) (found : Option ClockId) → GetTurns s d found (got s d (option_map (λ c. c.0) found)).1
get_turns s d None = record { unknown = came refl refl; deferred = not_came (λ is. cc) (λ why. let no : None ≡ Some why.0 = why.1 in cc); given_ = λ c e. absurd cc }
get_turns s d (Some c) =
    pick_either (λ y. GetTurns s d (Some c) y.1) _ _ _
    (λ e. record {
      unknown = not_came (λ is. cc) (λ none. cc);
      deferred = not_came (λ is. cc) (λ why. let is : c ≡ why.0 = same why.1 in let no = ap (λ (x : ClockId). rooted s.defs s.clocks x.0) is ∙ why.2 in cc);
      given_ = λ a is root. refl;
    })
    (λ e. record {
      unknown = not_came (λ is. cc) (λ none. cc);
      deferred = came refl (c, refl, e);
      given_ = λ a is root. let no : rooted s.defs s.clocks c.0 ≡ true = ap (λ (x : ClockId). rooted s.defs s.clocks x.0) (same is) ∙ root in absurd cc;
    }) where
      same : {a b : ClockId} → Some a ≡ Some b → a ≡ b
      same e = cc

pub put_turns : (s : State) (number : ℕ) (row : HandleRow) → Known (PutTurns row) (put_back s number row)
put_turns s number row =
    pick_either (Known (PutTurns row)) _ _ _
    (λ e. (record { busy = came refl ((holds_tells row).0 e); done = not_came (λ is. cc) (λ never. never ((holds_tells row).0 e)) }, λ is. cc))
    (λ e. (record { busy = not_came (λ is. cc) ((holds_tells row).1 e); done = came refl ((holds_tells row).1 e) }, λ is. cc))

-- ---- prepares

pub prepare_turns : (s : State) (d : ℕ) (what : Sleeping) (number : ℕ) (row : HandleRow) → Known (PrepareTurns s d what row) (prepare s d what number row)
prepare_turns s d what number row =
    pick_either (Known (PrepareTurns s d what row)) _ _ _
    (λ e. let none = first_none (unprepared_plls s (path s.clocks row.clock.0)) e in
    (record { done = came refl none; rest = rest_not fine (NoneToRaise s row.clock.0 → ⊥) s _ (λ is. cc) (λ is. cc) (λ some. some none) }, λ is. cc))
    (λ e. goes (some_first (unprepared_plls s (path s.clocks row.clock.0)) e) (starts s s k).1 (started s s k)) where
      k : Change
      k = change_of s d what (micro.Raise row.clock ∷ micro.End ∷ [])

      goes : (NoneToRaise s row.clock.0 → ⊥) → (given : Turn) → HowStarted given s k → PrepareTurns s d what row given × (given ≡ refusal errno.ENOENT → ⊥)
      goes some given how = (
        record { done = not_came (no_answer given fine s k how (λ is. cc) (λ is. cc)) some; rest = rest_is given (NoneToRaise s row.clock.0 → ⊥) s k how some },
        no_answer given (refusal errno.ENOENT) s k how (λ is. cc) (λ is. cc),
      )

pub unprepare_turns : (s : State) (d : ℕ) (what : Sleeping) (number : ℕ) (row : HandleRow) → Known (UnprepareTurns s d what number row) (unprepare s d what number row)
unprepare_turns s d what number row =
    pick_either (Known (UnprepareTurns s d what number row)) _ _ _
    (λ e. let has = (keeps_tells row).0 e in
    (record { kept = came refl has; done = not_came (λ is. cc) (λ why. why.0 has); rest = rest_not warned left less k (λ is. cc) (λ is. cc) (λ why. why.0 has) }, λ is. cc))
    (λ e. let free = (keeps_tells row).1 e in
    pick_either (Known (UnprepareTurns s d what number row)) _ _ _
    (λ f. let none = first_none (filter (runs s.defs s.regs) (unprepared_plls less (path s.clocks row.clock.0))) f in
    (record { kept = not_came (λ is. cc) free; done = came refl (free, none); rest = rest_not fine left less k (λ is. cc) (λ is. cc) (λ why. why.1 none) }, λ is. cc))
    (λ f. goes free (some_first (filter (runs s.defs s.regs) (unprepared_plls less (path s.clocks row.clock.0))) f) (starts s less k).1 (started s less k))) where
      less : State
      less = one_less s number row

      k : Change
      k = change_of s d what (micro.Lower row.clock ∷ micro.End ∷ [])

      left : Type 0
      left = (KeepsPrepare row → ⊥) × (NoneToLower less row.clock.0 → ⊥)

      goes : (KeepsPrepare row → ⊥) → (NoneToLower less row.clock.0 → ⊥) → (given : Turn) → HowStarted given less k → UnprepareTurns s d what number row given × (given ≡ refusal errno.ENOENT → ⊥)
      goes free some given how = (
        record {
          kept = not_came (no_answer given warned less k how (λ is. cc) (λ is. cc)) free;
          done = not_came (no_answer given fine less k how (λ is. cc) (λ is. cc)) (λ why. some why.1);
          rest = rest_is given left less k how (free, some);
        },
        no_answer given (refusal errno.ENOENT) less k how (λ is. cc) (λ is. cc),
      )

-- ---- rates

pub round_turns : (s : State) (number : ℕ) (row : HandleRow) (x : ℕ) → Known (RoundTurns s number row x) (rounded s number row x)
round_turns s number row x = by (round_rate (wiring s) (view (lift s number)) row.clock.0 x) refl where
  by : (o : Option ℕ) → round_rate (wiring s) (view (lift s number)) row.clock.0 x ≡ o
      → Known (RoundTurns s number row x) (option_map_or (λ r. done s (reply.Rate r)) o (refused s errno.EINVAL))
  by None e = (record { told = λ r is. let no : None ≡ Some r = sym e ∙ is in absurd cc; none = came refl e }, λ is. cc)
  by (Some r) e = (
    record {
      told = λ y is. ap (λ (z : ℕ). turn.Done (reply.Rate z)) (inside (sym e ∙ is));
      none = not_came (λ is. cc) (λ none. let no : None ≡ Some r = sym none ∙ e in cc);
    },
    λ is. cc,
  ) where
    inside : {a b : ℕ} → Some a ≡ Some b → a ≡ b
    inside is = cc

same_plan : {a b : List ChainStep} → Some a ≡ Some b → a ≡ b
same_plan e = cc

pub request_turns : (o n f lifted : State) (d : ℕ) (what : Sleeping) (c x : ℕ) (range : Option (ℕ × ℕ)) → Known (RequestTurns n lifted d what c x range) (request o n f lifted d what c x range)
request_turns o n f lifted d what c x range =
    pick_either (Known (RequestTurns n lifted d what c x range)) _ _ _
    (λ e. let keeps = is_at_same (rate n.defs n.regs n.clocks c) (round_rate (wiring n) (free_view lifted c) c x) e in (
      record {
        done = came refl keeps;
        busy = not_came (λ is. cc) (λ why. why.0 keeps);
        no_plan = not_came (λ is. cc) (λ why. why.0 keeps);
        full = not_came (λ is. cc) (λ why. why.1.0 keeps);
        going = not_came (λ is. cc) (λ why. why.1.0 keeps);
      },
      λ is. cc,
    ))
    (λ e. let changes = not_at (rate n.defs n.regs n.clocks c) (round_rate (wiring n) (free_view lifted c) c x) e in
    pick_either (Known (RequestTurns n lifted d what c x range)) _ _ _
    (λ g. (
      record {
        done = not_came (λ is. cc) changes;
        busy = came refl (changes, g);
        no_plan = not_came (λ is. cc) (λ why. let no = why.1 in cc);
        full = not_came (λ is. cc) (λ why. let no = why.1.1 in cc);
        going = not_came (λ is. cc) (λ why. let no = why.1.1 in cc);
      },
      λ is. cc,
    ))
    (λ g. by changes g (chain (wiring n) (view lifted) c x) refl)) where
      with_plan : (KeepsRate n lifted c x → ⊥) → guarded lifted c ≡ false → (ks : List ChainStep) → chain (wiring n) (view lifted) c x ≡ Some ks → (given : Turn) → HowStarted given n (change_along n d what ks [] range)
          → RequestTurns n lifted d what c x range given × (given ≡ refusal errno.ENOENT → ⊥)
      with_plan changes g ks at given how = (
        record {
          done = not_came (no_answer given fine n _ how (λ is. cc) (λ is. cc)) changes;
          busy = not_came (no_answer given (refusal errno.EBUSY) n _ how (λ is. cc) (λ is. cc)) (λ why. let no = why.1 in cc);
          no_plan = not_came (no_answer given (refusal errno.EINVAL) n _ how (λ is. cc) (λ is. cc)) (λ why. let no : None ≡ Some ks = sym why.2 ∙ at in cc);
          full = full_of how;
          going = going_of how;
        },
        no_answer given (refusal errno.ENOENT) n _ how (λ is. cc) (λ is. cc),
      ) where
        full_of : HowStarted given n (change_along n d what ks [] range) → Comes (refusal errno.ENOSPC) given
            ((js : List ChainStep) × HasPlan n lifted c x (Some js) × (HasRoom n (change_along n d what js [] range) → ⊥))
        full_of (short is never) = came is (ks, (changes, g, at), never)
        full_of (roomy is room) =
            not_came (λ no. cc) (λ why. why.2 (subst (λ (js : List ChainStep). HasRoom n (change_along n d what js [] range)) (same_plan (sym at ∙ why.1.2)) room))

        going_of : HowStarted given n (change_along n d what ks [] range) → Comes turn.Going given
            ((js : List ChainStep) × HasPlan n lifted c x (Some js) × HasRoom n (change_along n d what js [] range))
        going_of (short is never) =
            not_came (λ no. cc) (λ why. never (subst (λ (js : List ChainStep). HasRoom n (change_along n d what js [] range)) (sym (same_plan (sym at ∙ why.1.2))) why.2))
        going_of (roomy is room) = came is (ks, (changes, g, at), room)

      by : (KeepsRate n lifted c x → ⊥) → guarded lifted c ≡ false → (plan : Option (List ChainStep)) → chain (wiring n) (view lifted) c x ≡ plan
          → Known (RequestTurns n lifted d what c x range) (option_map_or (λ ks. starts o n (change_along n d what ks [] range)) plan (refused o errno.EINVAL))
      by changes g None at = (
        record {
          done = not_came (λ is. cc) changes;
          busy = not_came (λ is. cc) (λ why. let no = why.1 in cc);
          no_plan = came refl (changes, g, at);
          full = not_came (λ is. cc) (λ why. let no : None ≡ Some why.0 = sym at ∙ why.1.2 in cc);
          going = not_came (λ is. cc) (λ why. let no : None ≡ Some why.0 = sym at ∙ why.1.2 in cc);
        },
        λ is. cc,
      )
      by changes g (Some ks) at = with_plan changes g ks at (starts o n (change_along n d what ks [] range)).1 (started o n (change_along n d what ks [] range))

pub range_turns : (s : State) (d : ℕ) (what : Sleeping) (number : ℕ) (row : HandleRow) (least most : ℕ) → Known (RangeTurns s d what number row least most) (range_set s d what number row least most)
range_turns s d what number row least most =
    let n : State = with_limits s number row least most in
    pick_either (Known (RangeTurns s d what number row least most)) _ _ _
    (λ e. (record { missed = λ is. refl; asked = λ fits. absurd cc }, λ is. cc))
    (λ e. let asked = request_turns s n n (lift n number) d what row.clock.0 (request_between s.clocks row.clock.0 least most) (Some (row.min, row.max)) in
    (record { missed = λ is. absurd cc; asked = λ fits. asked.0 }, asked.1))
