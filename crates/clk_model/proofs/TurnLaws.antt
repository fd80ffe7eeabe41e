-- Laws on turns: when one comes for its cause, how a call starts, and calls on a handle.
use Rattle.std.proofs.Common.{◌≡◌, ℕ, ◌+◌, false, List, [], ◌∷◌, Option, Some, None, refl, sym, subst, ◌∙◌, arith, nat_lt}
use Rattle.std.specs.Prelude.{slice_get, is_none}
use Rattle.std.specs.Option.{option_map_or}
use Rattle.std.proofs.lemmas.Bool.Decides.{nat_tests}
use Rattle.clk_base.specs.declared.event.Errno.TheVariants as errno
use Rattle.clk_base.specs.declared.event.Turn.{Turn}
use Rattle.clk_base.specs.declared.event.Turn.TheVariants as turn
use Rattle.clk_model.specs.declared.row.HandleRow.{HandleRow}
use Rattle.clk_model.specs.Lists.{is_at}
use Rattle.clk_model.specs.State.{State, Change}
use Rattle.clk_model.specs.Begin.{refused, most_credits, weight_of, starts, own_handle, with_handle}
use Rattle.clk_model.specs.Laws.CallCauses.{Comes, refusal, HasRoom, GoesOnWhere, OnHandle, OnlyUnknown}
use Rattle.clk_model.proofs.TierLaws.{pick_either}
use Rattle.clk_model.proofs.WalkLaws.{at_same}
use Rattle.clk_model.proofs.BareHandleLaws.{inside}

-- ---- words

-- this turn was given, and its cause holds
pub came : {wanted given : Turn} {cause : Type 0} → given ≡ wanted → cause → Comes wanted given cause
came is why = (λ _. why, λ _. is)

-- another turn was given, and its cause doesn't hold
pub not_came : {wanted given : Turn} {cause : Type 0} → (given ≡ wanted → ⊥) → (cause → ⊥) → Comes wanted given cause
not_came isnt never = (λ is. absurd (isnt is), λ why. absurd (never why))

pub not_at : (x : ℕ) (o : Option ℕ) → is_at x o ≡ false → o ≡ Some x → ⊥
not_at x o e is = let at = at_same x o is in cc

pub some_first : (xs : List ℕ) → is_none (slice_get xs 0) ≡ false → xs ≡ [] → ⊥
some_first [] e none = cc
some_first (x ∷ xs) e none = cc

-- ---- going on

-- how a call starts: it is refused for want of room, or goes on
pub data HowStarted (given : Turn) (n : State) (k : Change) : Type 0 where
  short : given ≡ refusal errno.ENOSPC → (HasRoom n k → ⊥) → HowStarted given n k
  roomy : given ≡ turn.Going → HasRoom n k → HowStarted given n k

pub started : (o n : State) (k : Change) → HowStarted (starts o n k).1 n k
started o n k =
    pick_either (λ y. HowStarted y.1 n k) _ _ _
    (λ e. short refl (λ room. let no : nat_lt most_credits (n.credits + n.steps + weight_of n k) ≡ false = grind (arith, nat_tests) in cc))
    (λ e. roomy refl (grind (arith, nat_tests)))

pub rest_is : (given : Turn) (left : Type 0) (n : State) (k : Change) → HowStarted given n k → left → GoesOnWhere given left n k
rest_is given left n k (short is never) holds = record { full = came is (holds, never); going = not_came (λ no. cc) (λ why. never why.1) }
rest_is given left n k (roomy is room) holds = record { full = not_came (λ no. cc) (λ why. why.1 room); going = came is (holds, room) }

-- a call that starts isn't answered otherwise
pub no_answer : (given wanted : Turn) (n : State) (k : Change) → HowStarted given n k → (refusal errno.ENOSPC ≡ wanted → ⊥) → (turn.Going ≡ wanted → ⊥) → given ≡ wanted → ⊥
no_answer given wanted n k (short is never) a b e = a (sym is ∙ e)
no_answer given wanted n k (roomy is room) a b e = b (sym is ∙ e)

-- an answer at once, where nothing is left to do
pub rest_not : (given : Turn) (left : Type 0) (n : State) (k : Change) → (given ≡ refusal errno.ENOSPC → ⊥) → (given ≡ turn.Going → ⊥) → (left → ⊥) → GoesOnWhere given left n k
rest_not given left n k a b never = record { full = not_came a (λ why. never why.0); going = not_came b (λ why. never why.0) }

-- ---- calls on a handle

pub only_unknown : (s : State) (d n : ℕ) (f : HandleRow → State × Turn) (K : HandleRow → Turn → Type 0)
    → ((row : HandleRow) → K row (f row).1 × ((f row).1 ≡ refusal errno.ENOENT → ⊥)) → OnlyUnknown s d n (with_handle s d n f).1 (λ row. K row (with_handle s d n f).1)
only_unknown s d n f K each = by (own_handle s d n) refl where
  by : (o : Option HandleRow) → own_handle s d n ≡ o
      → OnlyUnknown s d n (option_map_or f o (refused s errno.ENOENT)).1 (λ row. K row (option_map_or f o (refused s errno.ENOENT)).1)
  by None lacks = record { unknown = came refl lacks; known = λ row own. let no : None ≡ Some row = sym lacks ∙ own in absurd cc }
  by (Some r) own = record {
    unknown = not_came (each r).1 (λ lacks. let no : None ≡ Some r = sym lacks ∙ own in cc);
    known = λ row own'. subst (λ (g : HandleRow). K g (f r).1) (inside (sym own ∙ own')) (each r).0;
  }

pub on_handle : (s : State) (d n : ℕ) (f : HandleRow → State × Turn) (K : HandleRow → Turn → Type 0) → ((row : HandleRow) → K row (f row).1)
    → OnHandle s d n (with_handle s d n f).1 (λ row. K row (with_handle s d n f).1)
on_handle s d n f K each = by (own_handle s d n) refl where
  by : (o : Option HandleRow) → own_handle s d n ≡ o → OnHandle s d n (option_map_or f o (refused s errno.ENOENT)).1 (λ row. K row (option_map_or f o (refused s errno.ENOENT)).1)
  by None lacks = record { unknown = λ e. refl; known = λ row own. let no : None ≡ Some row = sym lacks ∙ own in absurd cc }
  by (Some r) own = record {
    unknown = λ lacks. let no : None ≡ Some r = sym lacks ∙ own in absurd cc;
    known = λ row own'. subst (λ (g : HandleRow). K g (f r).1) (inside (sym own ∙ own')) (each r);
  }

-- what a call on a handle comes to with a handle: its causes, and no refusal for want of one
abbrev pub Known : (Turn → Type 0) → State × Turn → Type 0
Known K y = K y.1 × (y.1 ≡ refusal errno.ENOENT → ⊥)
