-- A command under way makes its calls.
use Rattle.std.proofs.Common.{◌≡◌, ℕ, ◌+◌, ◌-◌, Bool, true, false, cond, ◌&&◌, List, [], ◌∷◌, ◌++◌, Option, Some, None, is_none, map, reverse, length, refl, sym, ap, subst, ◌∙◌, append_assoc}
use Rattle.std.proofs.lemmas.List.{append-nil}
use Rattle.clk_base.specs.declared.event.Reply.{Reply}
use Rattle.clk_base.specs.declared.handle.Handle.{Handle}
use Rattle.clk_phase.specs.declared.bulk_call.BulkKind.{BulkKind}
use Rattle.clk_phase.specs.declared.bulk_call.BulkItem.{BulkItem}
use Rattle.clk_phase.specs.declared.bulk_call.BulkStep.{BulkStep}
use Rattle.clk_phase.specs.Bulk.{Made, is_forward, is_good, step_of, undo_of, handle_in, handles_of, steps_made, Forward, GoesOn, fail_up, fail_down, IsBulk, IsBulkBy}
use Rattle.clk_phase.specs.Running.{Run, handles_at, next_of, begun, Runs, first_fail}

abbrev pub run : Bool → List BulkStep → List BulkStep → Option (ℕ × Reply) → ℕ → List Handle → Run
run forward left undo fail place handles = record { forward = forward; left = left; undo = undo; fail = fail; place = place; handles = handles }

pub same_some : {A : Type 0} → (a b : A) → Some a ≡ Some b → a ≡ b
same_some a b is = cc

pub some_none : {A : Type 0} → (a : A) → Some a ≡ None → ⊥
some_none a is = cc

-- what is over has no call left
ended : (r r' : Run) (s : BulkStep) → next_of r ≡ Some s → r ≡ r' → next_of r' ≡ None → ⊥
ended r r' s next is none = some_none s (sym next ∙ ap next_of is ∙ none)

undoing : (left undo : List BulkStep) (f : ℕ × Reply) (place : ℕ) (handles : List Handle) (made : List Made) (r' : Run) → Runs (run true left undo (Some f) place handles) made r' → next_of r' ≡ None
    → (steps_made made ≡ undo) × (r'.fail ≡ Some f) × (r'.forward ≡ true)
undoing left [] f place handles [] r' runs none = (refl, sym (ap (λ (r : Run). r.fail) runs), sym (ap (λ (r : Run). r.forward) runs))
undoing left [] f place handles (m ∷ made) r' runs none = absurd (some_none m.step (sym runs.0))
undoing left (s ∷ undo) f place handles [] r' runs none = absurd (ended (run true left (s ∷ undo) (Some f) place handles) r' s refl runs none)
undoing left (s ∷ undo) f place handles (m ∷ made) r' runs none =
    let rest = undoing left undo f place handles made r' runs.1 none in
    (ap (λ (x : BulkStep). x ∷ steps_made made) (sym (same_some s m.step runs.0)) ∙ ap (λ (ss : List BulkStep). s ∷ ss) rest.0, rest.1, rest.2)

record Goes (undo left : List BulkStep) (place : ℕ) (handles : List Handle) (made : List Made) (r' : Run) : Type 0 where
  forward : Forward undo left made
  fail : r'.fail ≡ fail_up place made
  side : r'.forward ≡ true
  got : is_none r'.fail ≡ true → r'.handles ≡ handles ++ handles_of made

goes : (left undo : List BulkStep) (place : ℕ) (handles : List Handle) (made : List Made) (r' : Run) → Runs (run true left undo None place handles) made r' → next_of r' ≡ None → Goes undo left place handles made r'
goes [] undo place handles [] r' runs none = record {
  forward = refl;
  fail = sym (ap (λ (r : Run). r.fail) runs);
  side = sym (ap (λ (r : Run). r.forward) runs);
  got = λ is. sym (ap (λ (r : Run). r.handles) runs) ∙ sym (append-nil handles);
}
goes [] undo place handles (m ∷ made) r' runs none = absurd (some_none m.step (sym runs.0))
goes (s ∷ left) undo place handles [] r' runs none = absurd (ended (run true (s ∷ left) undo None place handles) r' s refl runs none)
goes (s ∷ left) undo place handles (m ∷ made) r' runs none = by_case (λ u p h rest. goes left u p h made r' rest none) (is_good m.reply) runs.1 refl where
  by_case : ((u : List BulkStep) (p : ℕ) (h : List Handle) → Runs (run true left u None p h) made r' → Goes u left p h made r') → (b : Bool)
      → Runs (cond b (run true left (undo_of m.step m.reply ∷ undo) None (place + 1) (handles ++ handle_in m.reply)) (run true left undo (Some (place, m.reply)) (place + 1) handles)) made r' → is_good m.reply ≡ b
      → Goes undo (s ∷ left) place handles (m ∷ made) r'
  by_case again true rest is =
      let g = again (undo_of m.step m.reply ∷ undo) (place + 1) (handles ++ handle_in m.reply) rest in
      record {
        forward = (sym (same_some s m.step runs.0), subst (λ (b : Bool). GoesOn b (Forward (undo_of m.step m.reply ∷ undo) left made) (steps_made made ≡ undo)) (sym is) g.forward);
        fail = g.fail ∙ ap (λ (b : Bool). cond b (fail_up (place + 1) made) (Some (place, m.reply))) (sym is);
        side = g.side;
        got = λ at. g.got at ∙ append_assoc handles (handle_in m.reply) (handles_of made);
      }
  by_case again false rest is =
      let u = undoing left undo (place, m.reply) (place + 1) handles made r' rest none in
      record {
        forward = (sym (same_some s m.step runs.0), subst (λ (b : Bool). GoesOn b (Forward (undo_of m.step m.reply ∷ undo) left made) (steps_made made ≡ undo)) (sym is) u.0);
        fail = u.1 ∙ ap (λ (b : Bool). cond b (fail_up (place + 1) made) (Some (place, m.reply))) (sym is);
        side = u.2;
        got = λ at. absurd (let no_ : false ≡ true = sym (ap is_none u.1) ∙ at in cc);
      }

-- the first failure of what was made before, or else of these
abbrev fail_after : Option (ℕ × Reply) → ℕ → List Made → Option (ℕ × Reply)
fail_after None k made = fail_down k made
fail_after (Some f) k made = Some f

back : (left undo : List BulkStep) (fail : Option (ℕ × Reply)) (place : ℕ) (handles : List Handle) (made : List Made) (r' : Run) → Runs (run false left undo fail place handles) made r' → next_of r' ≡ None
    → (steps_made made ≡ left) × (r'.fail ≡ fail_after fail place made) × (r'.forward ≡ false)
back [] undo fail place handles [] r' runs none = (refl, sym (ap (λ (r : Run). r.fail) runs) ∙ same fail, sym (ap (λ (r : Run). r.forward) runs)) where
  same : (f : Option (ℕ × Reply)) → f ≡ fail_after f place []
  same None = refl
  same (Some f) = refl
back [] undo fail place handles (m ∷ made) r' runs none = absurd (some_none m.step (sym runs.0))
back (s ∷ left) undo fail place handles [] r' runs none = absurd (ended (run false (s ∷ left) undo fail place handles) r' s refl runs none)
back (s ∷ left) undo fail place handles (m ∷ made) r' runs none = by_case (λ u f p h rest. back left u f p h made r' rest none) (is_good m.reply) runs.1 refl where
  head_is : (rest : steps_made made ≡ left) → steps_made (m ∷ made) ≡ s ∷ left
  head_is rest = ap (λ (x : BulkStep). x ∷ steps_made made) (sym (same_some s m.step runs.0)) ∙ ap (λ (ss : List BulkStep). s ∷ ss) rest

  good : (f : Option (ℕ × Reply)) → is_good m.reply ≡ true → fail_after f (place - 1) made ≡ fail_after f place (m ∷ made)
  good None is = ap (λ (b : Bool). cond b (fail_down (place - 1) made) (Some (place, m.reply))) (sym is)
  good (Some f) is = refl

  bad : (f : Option (ℕ × Reply)) → is_good m.reply ≡ false → fail_after (first_fail f place m.reply) (place - 1) made ≡ fail_after f place (m ∷ made)
  bad None is = ap (λ (b : Bool). cond b (fail_down (place - 1) made) (Some (place, m.reply))) (sym is)
  bad (Some f) is = refl

  by_case : ((u : List BulkStep) (f : Option (ℕ × Reply)) (p : ℕ) (h : List Handle) → Runs (run false left u f p h) made r' → (steps_made made ≡ left) × (r'.fail ≡ fail_after f p made) × (r'.forward ≡ false)) → (b : Bool)
      → Runs (cond b (run false left (undo_of m.step m.reply ∷ undo) fail (place - 1) (handles ++ handle_in m.reply)) (run false left undo (first_fail fail place m.reply) (place - 1) handles)) made r' → is_good m.reply ≡ b
      → (steps_made (m ∷ made) ≡ s ∷ left) × (r'.fail ≡ fail_after fail place (m ∷ made)) × (r'.forward ≡ false)
  by_case again true rest is =
      let g = again (undo_of m.step m.reply ∷ undo) fail (place - 1) (handles ++ handle_in m.reply) rest in
      (head_is g.0, g.1 ∙ good fail is, g.2)
  by_case again false rest is =
      let g = again undo (first_fail fail place m.reply) (place - 1) handles rest in
      (head_is g.0, g.1 ∙ bad fail is, g.2)

module _ (n : ℕ) (steps : List BulkStep) (made : List Made) (r' : Run) (none : next_of r' ≡ None) where
  given : (b : Bool) → is_none r'.fail ≡ b → (is_none r'.fail ≡ true → r'.handles ≡ [] ++ handles_of made) → cond b r'.handles [] ≡ cond b (handles_of made) []
  given true is got = got is
  given false is got = refl

  by_side : (b : Bool) → Runs (run b (cond b steps (reverse steps)) [] None (cond b 1 n) []) made r' → IsBulkBy b steps n made r'.fail (handles_at r')
  by_side true runs =
      let g = goes steps [] 1 [] made r' runs none in
      (g.forward, g.fail, ap (λ (b : Bool). cond (b && is_none r'.fail) r'.handles []) g.side ∙ given (is_none r'.fail) refl g.got)
  by_side false runs =
      let g = back (reverse steps) [] None n [] made r' runs none in
      (g.0, g.1, ap (λ (b : Bool). cond (b && is_none r'.fail) r'.handles []) g.2)

pub is_bulk : (k : BulkKind) (items : List BulkItem) (made : List Made) (r' : Run) → Runs (begun k items) made r' → next_of r' ≡ None → IsBulk k items made r'.fail (handles_at r')
is_bulk k items made r' runs none = by_side (length items) (map (step_of k) items) made r' none (is_forward k) runs
