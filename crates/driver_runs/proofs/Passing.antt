-- Commands that are skipped, and those that are answered.
use Rattle.std.proofs.Common.{◌≡◌, ℕ, suc, ◌+◌, ◌≤◌, Bool, true, false, cond, List, [], ◌∷◌, ◌++◌, Option, Some, None, refl, sym, ap, subst, ◌∙◌, arith, length, drop, append_assoc}
use Rattle.std.specs.Prelude.{is_none}
use Rattle.std.proofs.lemmas.List.{length-append}
use Rattle.clk_base.specs.declared.command.Answer.{Answer}
use Rattle.clk_base.specs.declared.command.Answer.TheVariants as answer
use Rattle.clk_base.specs.declared.command.Command.{Command}
use Rattle.clk_base.specs.declared.event.Event.{Event}
use Rattle.clk_base.specs.declared.event.Reply.{Reply}
use Rattle.clk_model.specs.Follows.{Variables, handle_of, call_of, held_after, NextFollows, FollowsFrom}
use Rattle.clk_model.specs.Ordered.{unskipped}
use Rattle.driver_runs.specs.Standing.{left_of, PassesOver, PassesSome, IsAnswered}
use Rattle.driver_runs.specs.declared.standing.Standing.{Standing}

-- ---- commands that are skipped

pub none_is : {X : Type 0} (o : Option X) → is_none o ≡ true → o ≡ None
none_is None h = refl
none_is (Some x) h = absurd cc

-- the first of these commands is skipped, or isn't
pub unskipped_more : (held : Variables) (c : Command) (cs : List Command) → is_none (call_of (handle_of held c) c.act) ≡ true → unskipped held (c ∷ cs) ≡ unskipped held cs
unskipped_more held c cs h = ap (λ (b : Bool). cond b (unskipped held cs) (c ∷ cs)) h

pub unskipped_stops : (held : Variables) (c : Command) (cs : List Command) → is_none (call_of (handle_of held c) c.act) ≡ false → unskipped held (c ∷ cs) ≡ c ∷ cs
unskipped_stops held c cs h = ap (λ (b : Bool). cond b (unskipped held cs) (c ∷ cs)) h

-- behind those that are skipped none is skipped at first
pub unskipped_again : (held : Variables) (cs : List Command) → unskipped held (unskipped held cs) ≡ unskipped held cs
unskipped_again held [] = refl
unskipped_again held (c ∷ cs) = pick (is_none (call_of (handle_of held c) c.act)) refl (unskipped_again held cs) where
  pick : (b : Bool) → is_none (call_of (handle_of held c) c.act) ≡ b → unskipped held (unskipped held cs) ≡ unskipped held cs → unskipped held (unskipped held (c ∷ cs)) ≡ unskipped held (c ∷ cs)
  pick true h again = ap (unskipped held) (unskipped_more held c cs h) ∙ again ∙ sym (unskipped_more held c cs h)
  pick false h again = ap (unskipped held) (unskipped_stops held c cs h)

pub unskipped_short : (held : Variables) (cs : List Command) → length (unskipped held cs) ≤ length cs
unskipped_short held [] = omega arith
unskipped_short held (c ∷ cs) = pick (is_none (call_of (handle_of held c) c.act)) refl (unskipped_short held cs) where
  pick : (b : Bool) → is_none (call_of (handle_of held c) c.act) ≡ b → length (unskipped held cs) ≤ length cs → length (unskipped held (c ∷ cs)) ≤ suc (length cs)
  pick true h short =
      let same : length (unskipped held (c ∷ cs)) ≡ length (unskipped held cs) = ap (λ (xs : List Command). length xs) (unskipped_more held c cs h) in
      omega (arith, same, short)
  pick false h short =
      let same : length (unskipped held (c ∷ cs)) ≡ length (c ∷ cs) = ap (λ (xs : List Command). length xs) (unskipped_stops held c cs h) in
      omega (arith, same)

-- ---- passing over

pub passes_none : (commands : List Command) (x : Standing) → PassesSome commands x x
passes_none commands x = record { held = refl; left = refl; follows = λ ls as_ f. (as_, refl, f) }

-- a command more is skipped
pub passes_more : (commands : List Command) (x y z : Standing) (c : Command) → PassesSome commands x y → left_of commands y ≡ c ∷ drop (length y.answers.items + 1) commands
    → is_none (call_of (handle_of y.held.items c) c.act) ≡ true → z.held.items ≡ y.held.items → z.answers.items ≡ y.answers.items ++ answer.Skip ∷ [] → PassesSome commands x z
passes_more commands x y z c passes next none held answers =
    let rest = drop (length y.answers.items + 1) commands in
    let long : length z.answers.items ≡ length y.answers.items + 1 = ap (λ (xs : List Answer). length xs) answers ∙ length-append y.answers.items (answer.Skip ∷ []) in
    let left : left_of commands z ≡ rest = ap (λ (n : ℕ). drop n commands) long in
    let before : is_none (call_of (handle_of x.held.items c) c.act) ≡ true = ap (λ (h : Variables). is_none (call_of (handle_of h c) c.act)) (sym passes.held) ∙ none in
    record {
      held = held ∙ passes.held;
      left = ap (unskipped x.held.items) left ∙ sym (unskipped_more x.held.items c rest before) ∙ ap (unskipped x.held.items) (sym next) ∙ passes.left;
      follows = λ ls as_ f.
          let here : FollowsFrom y.held.items rest ls as_ = subst (λ (h : Variables). FollowsFrom h rest ls as_) held (subst (λ (cs : List Command). FollowsFrom z.held.items cs ls as_) left f) in
          let skipped : FollowsFrom y.held.items (c ∷ rest) ls (answer.Skip ∷ as_) =
          subst (λ (o : Option Event). NextFollows (λ after ls2. FollowsFrom after rest ls2 as_) y.held.items c o ls answer.Skip) (sym (none_is (call_of (handle_of y.held.items c) c.act) none)) (refl, here) in
          let found = passes.follows ls (answer.Skip ∷ as_) (subst (λ (cs : List Command). FollowsFrom y.held.items cs ls (answer.Skip ∷ as_)) (sym next) skipped) in
          (found.0, ap (λ (xs : List Answer). xs ++ as_) answers ∙ append_assoc y.answers.items (answer.Skip ∷ []) as_ ∙ found.1, found.2);
    }

-- ---- a command that is answered

pub answered_of : (commands : List Command) (x y z : Standing) (c : Command) (r : Reply) → left_of commands x ≡ c ∷ drop (length x.answers.items + 1) commands
    → y.held.items ≡ held_after x.held.items c c.act r → y.answers.items ≡ x.answers.items ++ answer.Reply r ∷ [] → PassesOver commands y z → IsAnswered commands x c r z
answered_of commands x y z c r next held answers passes =
    let rest = drop (length x.answers.items + 1) commands in
    let long : length y.answers.items ≡ length x.answers.items + 1 = ap (λ (xs : List Answer). length xs) answers ∙ length-append x.answers.items (answer.Reply r ∷ []) in
    let left : left_of commands y ≡ rest = ap (λ (n : ℕ). drop n commands) long in
    record {
      behind = rest;
      next = next;
      held = passes.held ∙ held;
      left = passes.left ∙ ap (λ (h : Variables). unskipped h (left_of commands y)) (sym passes.held) ∙ ap (unskipped z.held.items) left;
      follows = λ ls as_ f.
          let found = passes.follows ls as_ f in (
            found.0,
            found.1 ∙ ap (λ (xs : List Answer). xs ++ found.0) answers,
            subst (λ (cs : List Command). FollowsFrom z.held.items cs ls found.0) left
                (subst (λ (h : Variables). FollowsFrom h (left_of commands y) ls found.0) (sym passes.held) found.2),
          );
    }
