-- The loop over a command's calls.
use Rattle.std.proofs.Common.{◌≡◌, ℕ, ◌+◌, ◌-◌, ◌*◌, ◌≤◌, ◌<◌, Bool, true, false, cond, ◌&&◌, List, [], ◌∷◌, ◌++◌, All, Option, Some, None, map, reverse, length, refl, sym, ap, subst, ◌∙◌, arith}
use Rattle.std.proofs.lemmas.List.{length-map, length-reverse, reverse-append}
use Rattle.std.proofs.lemmas.List.Elements.{All-head, All-tail, All-cons, All-nil, All-append}
use Rattle.clk_base.specs.declared.call.Sleeping.TheVariants as call
use Rattle.clk_base.specs.declared.event.Reply.{Reply}
use Rattle.clk_base.specs.declared.event.Reply.TheVariants as reply
use Rattle.clk_base.specs.declared.handle.Handle.{Handle}
use Rattle.clk_phase.specs.declared.bulk_call.BulkKind.{BulkKind}
use Rattle.clk_phase.specs.declared.bulk_call.BulkItem.{BulkItem}
use Rattle.clk_phase.specs.declared.bulk_call.BulkStep.{BulkStep}
use Rattle.clk_phase.specs.declared.bulk_call.BulkStep.TheVariants as step
use Rattle.clk_phase.specs.Bulk.{Made, is_good, is_forward, undo_of, step_of, handle_in, credits_for}
use Rattle.clk_phase.specs.Running.{handles_at, Run, next_of, made_of, begun, Runs, first_fail, most_left}
use Rattle.clk_phase.specs.Going.{Goes, IsPlacedStep}
use Rattle.clk_phase.specs.Doing.{Does, IsUnderWay, ArePlaced}
use Rattle.clk_phase.proofs.Ruled.{run, is_bulk, some_none, same_some}

runs_more : (r : Run) (made : List Made) (r' : Run) (s : BulkStep) (t : Reply) → Runs r made r' → next_of r' ≡ Some s → Runs r (made ++ record { step = s; reply = t } ∷ []) (made_of r' s t)
runs_more r [] r' s t runs next = subst (λ (x : Run). Runs x (record { step = s; reply = t } ∷ []) (made_of r' s t)) (sym runs) (next, refl)
runs_more r (m ∷ made) r' s t runs next = (runs.0, runs_more (made_of r m.step m.reply) made r' s t runs.1 next)

goes_more : {S : Type 0} (makes : S → BulkStep → Reply → S → Type 0) (a : S) (made : List Made) (b c : S) (s : BulkStep) (t : Reply) → Goes makes a made b → makes b s t c → Goes makes a (made ++ record { step = s; reply = t } ∷ []) c
goes_more makes a [] b c s t goes step_ = (c, subst (λ x. makes x s t c) (sym goes) step_, refl)
goes_more makes a (m ∷ made) b c s t goes step_ = (goes.0, goes.1, goes_more makes goes.0 made b c s t goes.2 step_)

-- the call that is next is one of those that may be made
next_placed : (k : ℕ) (f : Bool) (left undo : List BulkStep) (fail : Option (ℕ × Reply)) (p : ℕ) (h : List Handle) (s : BulkStep) → next_of (run f left undo fail p h) ≡ Some s → ArePlaced k (run f left undo fail p h) → IsPlacedStep k s
next_placed k true left [] (Some x) p h s next placed = absurd (some_none s (sym next))
next_placed k true left (u ∷ undo) (Some x) p h s next placed = subst (λ (y : BulkStep). IsPlacedStep k y) (same_some u s next) (All-head (IsPlacedStep k) u undo placed.undo)
next_placed k true [] undo None p h s next placed = absurd (some_none s (sym next))
next_placed k true (l ∷ left) undo None p h s next placed = subst (λ (y : BulkStep). IsPlacedStep k y) (same_some l s next) (All-head (IsPlacedStep k) l left placed.left)
next_placed k false [] undo fail p h s next placed = absurd (some_none s (sym next))
next_placed k false (l ∷ left) undo fail p h s next placed = subst (λ (y : BulkStep). IsPlacedStep k y) (same_some l s next) (All-head (IsPlacedStep k) l left placed.left)

undo_placed : (k : ℕ) (s : BulkStep) (t : Reply) → IsPlacedStep k s → IsPlacedStep k (undo_of s t)
undo_placed k (step.Enable h) t placed = tt
undo_placed k (step.Disable h) t placed = tt
undo_placed k (step.Call (call.Prepare h)) t placed = tt
undo_placed k (step.Call (call.Get found)) (reply.Handle h) placed = tt
undo_placed k (step.Call (call.Get found)) reply.Fine placed = placed
undo_placed k (step.Call (call.Get found)) reply.Warn placed = placed
undo_placed k (step.Call (call.Get found)) reply.Yes placed = placed
undo_placed k (step.Call (call.Get found)) reply.No placed = placed
undo_placed k (step.Call (call.Get found)) (reply.Rate x) placed = placed
undo_placed k (step.Call (call.Get found)) (reply.Clock x) placed = placed
undo_placed k (step.Call (call.Get found)) (reply.Refused x) placed = placed
undo_placed k (step.Call (call.Put h)) t placed = placed
undo_placed k (step.Call (call.Unprepare h)) t placed = placed
undo_placed k (step.Call (call.GetRate h)) t placed = placed
undo_placed k (step.Call (call.RoundRate h x)) t placed = placed
undo_placed k (step.Call (call.SetRate h x)) t placed = placed
undo_placed k (step.Call (call.SetRateExclusive h x)) t placed = placed
undo_placed k (step.Call (call.SetRange h x y)) t placed = placed
undo_placed k (step.Call (call.SetParent h p)) t placed = placed
undo_placed k (step.Call (call.GetParent h)) t placed = placed
undo_placed k (step.Call (call.ExclusiveGet h)) t placed = placed
undo_placed k (step.Call (call.ExclusivePut h)) t placed = placed
undo_placed k (step.Call (call.NotifierAdd h i x y)) t placed = placed
undo_placed k (step.Call (call.NotifierRemove h i)) t placed = placed
undo_placed k (step.Call (call.Probe c)) t placed = placed
undo_placed k (step.Call call.Sweep) t placed = placed

-- what is left to make falls, and names clocks that there are
record Less (k : ℕ) (r r' : Run) : Type 0 where
  less : most_left r' + 1 ≤ most_left r
  placed : ArePlaced k r'

after : (k : ℕ) (f : Bool) (left undo : List BulkStep) (fail : Option (ℕ × Reply)) (p : ℕ) (h : List Handle) (s : BulkStep) (t : Reply) → next_of (run f left undo fail p h) ≡ Some s → ArePlaced k (run f left undo fail p h)
    → Less k (run f left undo fail p h) (made_of (run f left undo fail p h) s t)
after k true left [] (Some x) p h s t next placed = absurd (some_none s (sym next))
after k true left (u ∷ undo) (Some x) p h s t next placed = record { less = omega arith; placed = record { left = placed.left; undo = All-tail (IsPlacedStep k) u undo placed.undo } }
after k true [] undo None p h s t next placed = absurd (some_none s (sym next))
after k true (l ∷ left) undo None p h s t next placed = by_case (is_good t) where
  by_case : (b : Bool) → Less k (run true (l ∷ left) undo None p h) (cond b (run true left (undo_of s t ∷ undo) None (p + 1) (h ++ handle_in t)) (run true left undo (Some (p, t)) (p + 1) h))
  by_case true = record {
    less = omega arith;
    placed = record {
      left = All-tail (IsPlacedStep k) l left placed.left;
      undo = All-cons (IsPlacedStep k) (undo_of s t) undo (undo_placed k s t (next_placed k true (l ∷ left) undo None p h s next placed)) placed.undo;
    };
  }
  by_case false = record { less = omega arith; placed = record { left = All-tail (IsPlacedStep k) l left placed.left; undo = placed.undo } }
after k false [] undo fail p h s t next placed = absurd (some_none s (sym next))
after k false (l ∷ left) undo fail p h s t next placed = by_case (is_good t) where
  by_case : (b : Bool) → Less k (run false (l ∷ left) undo fail p h) (cond b (run false left (undo_of s t ∷ undo) fail (p - 1) (h ++ handle_in t)) (run false left undo (first_fail fail p t) (p - 1) h))
  by_case true = record {
    less = omega arith;
    placed = record {
      left = All-tail (IsPlacedStep k) l left placed.left;
      undo = All-cons (IsPlacedStep k) (undo_of s t) undo (undo_placed k s t (next_placed k false (l ∷ left) undo fail p h s next placed)) placed.undo;
    };
  }
  by_case false = record { less = omega arith; placed = record { left = All-tail (IsPlacedStep k) l left placed.left; undo = placed.undo } }

module _ {S : Type 0} (makes : S → BulkStep → Reply → S → Type 0) (credits clocks : S → ℕ) (old : S) (kind : BulkKind) (items : List BulkItem) where
  pub record Looped (r : Run) (now : S) : Type 0 where
    pub under : IsUnderWay makes old kind items r now
    pub credits_ : most_left r ≤ credits now
    -- what was spent and what may still be spent are the command's credits at most
    pub spent : credits old + most_left r ≤ credits now + credits_for kind (length items)
    pub clocks_ : clocks now ≡ clocks old
    pub placed : ArePlaced (clocks old) r

  pub next_credit : (r : Run) (now : S) (s : BulkStep) → Looped r now → next_of r ≡ Some s → 0 < credits now
  next_credit r now s l next = omega (arith, l.credits_, (after (clocks old) r.forward r.left r.undo r.fail r.place r.handles s reply.Fine next l.placed).less)

  pub next_place_ : (r : Run) (now : S) (s : BulkStep) → Looped r now → next_of r ≡ Some s → IsPlacedStep (clocks now) s
  next_place_ r now s l next = subst (λ (k : ℕ). IsPlacedStep k s) (sym l.clocks_) (next_placed (clocks old) r.forward r.left r.undo r.fail r.place r.handles s next l.placed)

  pub falls : (r : Run) (now : S) (s : BulkStep) (t : Reply) → Looped r now → next_of r ≡ Some s → most_left (made_of r s t) < most_left r
  falls r now s t l next = omega (arith, (after (clocks old) r.forward r.left r.undo r.fail r.place r.handles s t next l.placed).less)

  pub looped : (r : Run) (now new : S) (s : BulkStep) (t : Reply) → Looped r now → next_of r ≡ Some s → makes now s t new → credits now ≤ credits new + 1 → clocks new ≡ clocks now → Looped (made_of r s t) new
  looped r now new s t l next makes_ pays same =
      let a = after (clocks old) r.forward r.left r.undo r.fail r.place r.handles s t next l.placed in
      record {
        under = record {
          made = l.under.made ++ record { step = s; reply = t } ∷ [];
          goes = goes_more makes old l.under.made now new s t l.under.goes makes_;
          runs = runs_more (begun kind items) l.under.made r s t l.under.runs next;
        };
        credits_ = omega (arith, pays, l.credits_, a.less);
        spent = omega (arith, pays, l.spent, a.less);
        clocks_ = same ∙ l.clocks_;
        placed = a.placed;
      }

  pub does : (r : Run) (now : S) → Looped r now → next_of r ≡ None → Does makes old kind items r.fail (handles_at r) now
  does r now l none = record { made = l.under.made; goes = l.under.goes; bulk = is_bulk kind items l.under.made r l.under.runs none }

All-reverse : {X : Type 0} (P : X → Type 0) → (xs : List X) → All P xs → All P (reverse xs)
All-reverse P [] all = all
All-reverse {X = X} P (x ∷ xs) all = subst (λ (ys : List X). All P ys) (sym (reverse-append (x ∷ []) xs)) (All-append P (reverse xs) (x ∷ []) (All-reverse P xs (All-tail P x xs all)) (All-cons P x [] (All-head P x xs all) (All-nil P)))

start_placed : (k : ℕ) (kind : BulkKind) (steps : List BulkStep) (b : Bool) → All (IsPlacedStep k) steps → All (IsPlacedStep k) (cond b steps (reverse steps))
start_placed k kind steps true all = all
start_placed k kind steps false all = All-reverse (IsPlacedStep k) steps all

most_start : (kind : BulkKind) (items : List BulkItem) → most_left (begun kind items) ≤ credits_for kind (length items)
most_start kind items = by_case (is_forward kind) where
  by_case : (b : Bool) → cond (b && false) 0 (cond b (length (cond b (map (step_of kind) items) (reverse (map (step_of kind) items))) + length (cond b (map (step_of kind) items) (reverse (map (step_of kind) items))) + 0) (length (cond b (map (step_of kind) items) (reverse (map (step_of kind) items))))) ≤ cond b (2 * length items) (length items)
  by_case true = omega (arith, length-map items (step_of kind))
  by_case false = omega (arith, length-map items (step_of kind), length-reverse (map (step_of kind) items))

module _ {S : Type 0} (makes : S → BulkStep → Reply → S → Type 0) (credits clocks : S → ℕ) (old : S) (kind : BulkKind) (items : List BulkItem) where
  pub starts : (r : Run) → r ≡ begun kind items → credits_for kind (length items) ≤ credits old → All (IsPlacedStep (clocks old)) (map (step_of kind) items) → Looped makes credits clocks old kind items r old
  starts r is pays all = record {
    under = record { made = []; goes = refl; runs = sym is };
    credits_ = omega (arith, ap most_left is, most_start kind items, pays);
    spent = omega (arith, ap most_left is, most_start kind items);
    clocks_ = refl;
    placed = subst (λ (x : Run). ArePlaced (clocks old) x) (sym is) record { left = start_placed (clocks old) kind (map (step_of kind) items) (is_forward kind) all; undo = All-nil (IsPlacedStep (clocks old)) };
  }
