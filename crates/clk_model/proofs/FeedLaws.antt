-- Laws on the steps that keep a clock running while another is changed, and on what a timeout leaves of scripts that have them.
use Rattle.std.proofs.Common.{◌≡◌, ◌||◌, ◌&&◌, ℕ, Bool, true, false, cond, List, [], ◌∷◌, ◌++◌, Option, Some, None, refl, ap, ◌∙◌}
use Rattle.std.specs.List.{list_any, list_all}
use Rattle.clk_base.specs.declared.call.Micro.{Micro}
use Rattle.clk_base.specs.declared.call.Micro.TheVariants as micro
use Rattle.clk_base.specs.declared.call.Sleeping.{Sleeping}
use Rattle.clk_base.specs.declared.call.Sleeping.TheVariants as call
use Rattle.clk_model.specs.Chain.{clock_id}
use Rattle.clk_model.specs.Script.{feed, unfeed, fed_step}
use Rattle.clk_model.specs.Step.{is_end, is_visit, is_close, is_settle, is_register, lets_go, from_first, behind_first, behind_lets, first_alone, cut_short}
use Rattle.clk_model.proofs.NoneLaws.{none_append, none_front, none_rest}

-- the steps that feeds and unfeeds are made of
abbrev pub is_feeding : Micro → Bool
is_feeding (micro.Raise x) = true
is_feeding (micro.HoldPrepare x) = true
is_feeding (micro.HoldEnable x) = true
is_feeding (micro.DropEnable x) = true
is_feeding (micro.DropPrepare x) = true
is_feeding (micro.Lower x) = true
is_feeding _ = false

-- a test that none of these passes
abbrev pub NoFeeding : (Micro → Bool) → Type 0
NoFeeding p = (m : Micro) → is_feeding m ≡ true → p m ≡ false

neither : (a b : Bool) → a ≡ false → b ≡ false → (a || b) ≡ false
neither a b e f = ap (λ (t : Bool). t || b) e ∙ f

-- a step that is fed passes no test that it and these don't
pub none_fed : (p : Micro → Bool) (o : Option ℕ) (m : Micro) → NoFeeding p → p m ≡ false → list_any p (fed_step o m) ≡ false
none_fed p None m none own = neither (p m) false own refl
none_fed p (Some x) m none own = none_append p (feed x) (m ∷ unfeed x) (none_each (feed x) refl) (neither (p m) (list_any p (unfeed x)) own (none_each (unfeed x) refl)) where
  left : (a b : Bool) → (a && b) ≡ true → a ≡ true
  left true b e = refl
  left false b e = absurd cc

  right : (a b : Bool) → (a && b) ≡ true → b ≡ true
  right true b e = e
  right false b e = absurd cc

  none_each : (ns : List Micro) → list_all is_feeding ns ≡ true → list_any p ns ≡ false
  none_each [] all = refl
  none_each (n ∷ ns) all = neither (p n) (list_any p ns) (none n (left (is_feeding n) (list_all is_feeding ns) all)) (none_each ns (right (is_feeding n) (list_all is_feeding ns) all))

-- ---- what a timeout leaves

none_from : (p test : Micro → Bool) (ms : List Micro) → list_any p ms ≡ false → list_any p (from_first test ms) ≡ false
none_from p test [] none = refl
none_from p test (m ∷ ms) none = either (test m) none (none_from p test ms (none_rest p m ms none)) where
  either : (b : Bool) → list_any p (m ∷ ms) ≡ false → list_any p (from_first test ms) ≡ false → list_any p (cond b (m ∷ ms) (from_first test ms)) ≡ false
  either true e f = e
  either false e f = f

none_past : (p test : Micro → Bool) (ms : List Micro) → list_any p ms ≡ false → list_any p (behind_first test ms) ≡ false
none_past p test [] none = refl
none_past p test (m ∷ ms) none = either (test m) (none_rest p m ms none) (none_past p test ms (none_rest p m ms none)) where
  either : (b : Bool) → list_any p ms ≡ false → list_any p (behind_first test ms) ≡ false → list_any p (cond b ms (behind_first test ms)) ≡ false
  either true e f = e
  either false e f = f

pub none_lets : (p : Micro → Bool) (ms : List Micro) → list_any p ms ≡ false → list_any p (behind_lets ms) ≡ false
none_lets p [] none = refl
none_lets p (m ∷ ms) none = either (lets_go m) none (none_lets p ms (none_rest p m ms none)) where
  either : (b : Bool) → list_any p (m ∷ ms) ≡ false → list_any p (behind_lets ms) ≡ false → list_any p (cond b (behind_lets ms) (m ∷ ms)) ≡ false
  either true e f = f
  either false e f = e

pub none_alone : (p : Micro → Bool) (ms : List Micro) → list_any p ms ≡ false → list_any p (first_alone ms) ≡ false
none_alone p [] none = refl
none_alone p (m ∷ ms) none = neither (p m) (list_any p (behind_lets ms)) (none_front p m ms none) (none_lets p ms (none_rest p m ms none))

none_either : (p : Micro → Bool) (b : Bool) (xs ys : List Micro) → list_any p xs ≡ false → list_any p ys ≡ false → list_any p (cond b xs ys) ≡ false
none_either p true xs ys e f = e
none_either p false xs ys e f = f

-- what a timeout leaves passes no test that the script doesn't
pub none_short : (p : Micro → Bool) (what : Sleeping) (ms : List Micro) → list_any p ms ≡ false → list_any p (cut_short what ms) ≡ false
none_short p (call.Prepare h) ms none = none_from p is_end ms none
none_short p (call.SetParent h q) ms none = none_from p is_end ms none
none_short p (call.Probe c) ms none = none_either p (list_any is_register ms) (from_first is_end ms) (behind_first is_settle ms) (none_from p is_end ms none) (none_past p is_settle ms none)
none_short p call.Sweep ms none = none_lets p (behind_first is_close ms) (none_past p is_close ms none)
none_short p _ ms none = none_alone p (from_first is_visit ms) (none_from p is_visit ms none)

-- steps that let go are passed over
pub lets_past : (lets ms : List Micro) → list_all lets_go lets ≡ true → behind_lets (lets ++ ms) ≡ behind_lets ms
lets_past [] ms all = refl
lets_past (m ∷ lets) ms all =
    ap (λ (t : Bool). cond t (behind_lets (lets ++ ms)) (m ∷ (lets ++ ms))) (left (lets_go m) all) ∙ lets_past lets ms (right (lets_go m) all) where
      left : (a : Bool) → (a && list_all lets_go lets) ≡ true → a ≡ true
      left true e = refl
      left false e = absurd cc

      right : (a : Bool) → (a && list_all lets_go lets) ≡ true → list_all lets_go lets ≡ true
      right true e = e
      right false e = absurd cc

-- steps of other kinds are passed over
pub first_past : (test : Micro → Bool) (xs ys : List Micro) → list_any test xs ≡ false → from_first test (xs ++ ys) ≡ from_first test ys
first_past test [] ys none = refl
first_past test (x ∷ xs) ys none =
    ap (λ (t : Bool). cond t (x ∷ (xs ++ ys)) (from_first test (xs ++ ys))) (none_front test x xs none) ∙ first_past test xs ys (none_rest test x xs none)

pub behind_past : (test : Micro → Bool) (xs ys : List Micro) → list_any test xs ≡ false → behind_first test (xs ++ ys) ≡ behind_first test ys
behind_past test [] ys none = refl
behind_past test (x ∷ xs) ys none =
    ap (λ (t : Bool). cond t (xs ++ ys) (behind_first test (xs ++ ys))) (none_front test x xs none) ∙ behind_past test xs ys (none_rest test x xs none)

-- a timeout before a visit leaves it alone, and what stands after its group
pub visit_left : (pre lets rest : List Micro) (c : ℕ) → list_any is_visit pre ≡ false → list_all lets_go lets ≡ true → behind_lets rest ≡ rest
    → first_alone (from_first is_visit (pre ++ micro.Visit (clock_id c) ∷ (lets ++ rest))) ≡ micro.Visit (clock_id c) ∷ rest
visit_left pre lets rest c none all stays =
    ap first_alone (first_past is_visit pre (micro.Visit (clock_id c) ∷ (lets ++ rest)) none)
    ∙ ap (λ (ms : List Micro). micro.Visit (clock_id c) ∷ ms) (lets_past lets rest all ∙ stays)

-- and one before a gate's close what stands after its group
pub close_left : (pre lets rest : List Micro) (c : ℕ) → list_any is_close pre ≡ false → list_all lets_go lets ≡ true → behind_lets rest ≡ rest
    → behind_lets (behind_first is_close (pre ++ micro.Close (clock_id c) ∷ (lets ++ rest))) ≡ rest
close_left pre lets rest c none all stays =
    ap behind_lets (behind_past is_close pre (micro.Close (clock_id c) ∷ (lets ++ rest)) none) ∙ lets_past lets rest all ∙ stays
