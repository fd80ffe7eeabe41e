-- The script of the unused sweep: its order, and what its steps are.
use Rattle.std.proofs.Common.{◌≡◌, ℕ, zero, suc, ◌+◌, ◌≤◌, ◌&&◌, ◌||◌, Bool, true, false, cond, List, [], ◌∷◌, ◌++◌, Option, Some, None, refl, sym, ap, subst, ◌∙◌, arith, length, map, filter, take, append_assoc, append-nil}
use Rattle.std.specs.Prelude.{slice_get, flat_map}
use Rattle.std.specs.List.{list_all, list_any}
use Rattle.clk_base.specs.declared.call.Micro.{Micro}
use Rattle.clk_base.specs.declared.call.Micro.TheVariants as micro
use Rattle.clk_base.specs.declared.call.Sleeping.TheVariants as call
use Rattle.clk_base.specs.declared.clock.ClockId.{ClockId}
use Rattle.clk_base.specs.Description.{Description}
use Rattle.clk_base.specs.Flags.{runs_parent}
use Rattle.clk_base.specs.Levels.{depth}
use Rattle.clk_base.specs.Places.{places}
use Rattle.clk_base.proofs.Walked.{list_all-append}
use Rattle.clk_model.specs.Lists.{is_in}
use Rattle.clk_model.specs.Chain.{clock_id}
use Rattle.clk_model.specs.Script.{close_of, fed_step, sweep_order, sweep_script, tree_within}
use Rattle.clk_model.specs.Step.{is_visit}
use Rattle.clk_model.specs.declared.row.ClockRow.{ClockRow}
use Rattle.clk_model.specs.State.{State, link_in, registered}
use Rattle.clk_model.specs.Tree.{children, orphans, roots}
use Rattle.clk_model.proofs.BeginLaws.{sweep_has_no}
use Rattle.clk_model.proofs.FeedLaws.{NoFeeding}
use Rattle.clk_model.proofs.Members.{both_left, both_right, is_in_head, is_in_tail}
use Rattle.core_parts.specs.InFlight.{is_script}
use Rattle.clk_machine.specs.Parts.{Parts, bare, IsWhole}
use Rattle.clk_machine.specs.Stands.{Stands}
use Rattle.clk_machine.specs.Sweeping.{Adds, closes, unpowers, close_steps, unpower_steps}

-- ---- steps that are added

flat_append : (f : ℕ → List Micro) (xs ys : List ℕ) → flat_map f (xs ++ ys) ≡ flat_map f xs ++ flat_map f ys
flat_append f [] ys = refl
flat_append f (x ∷ xs) ys = ap (λ (ms : List Micro). f x ++ ms) (flat_append f xs ys) ∙ sym (append_assoc (f x) (flat_map f xs) (flat_map f ys))

filtered_append : (p : ℕ → Bool) (xs ys : List ℕ) → filter p (xs ++ ys) ≡ filter p xs ++ filter p ys
filtered_append p [] ys = refl
filtered_append p (x ∷ xs) ys = by (p x) (filtered_append p xs ys) where
  by : (t : Bool) → filter p (xs ++ ys) ≡ filter p xs ++ filter p ys → cond t (x ∷ filter p (xs ++ ys)) (filter p (xs ++ ys)) ≡ cond t (x ∷ filter p xs) (filter p xs) ++ filter p ys
  by true rest = ap (λ (zs : List ℕ). x ∷ zs) rest
  by false rest = rest

pub adds_none : (m : Parts) (step : ℕ → List Micro) (test : State → ℕ → Bool) (steps : List Micro) → Adds m step test [] steps steps
adds_none m step test steps = record { clocks = []; steps = sym (append-nil steps); there = refl; told = λ s stands. refl }

-- one clock, which passes the test or doesn't
pub adds_one : (m : Parts) (step : ℕ → List Micro) (test : State → ℕ → Bool) (c : ℕ) (t : Bool) (before after : List Micro) → registered m.tree.clocks c ≡ true → ((s : State) → Stands m s → t ≡ test s c)
    → t ≡ true → after ≡ before ++ step c → Adds m step test (c ∷ []) before after
adds_one m step test c t before after there tells passes added = record {
  clocks = c ∷ [];
  steps = added ∙ ap (λ (ms : List Micro). before ++ ms) (sym (append-nil (step c)));
  there = ap (λ (b : Bool). b && true) there;
  told = λ s stands. ap (λ (b : Bool). cond b (c ∷ []) []) (sym passes ∙ tells s stands);
}

pub adds_not : (m : Parts) (step : ℕ → List Micro) (test : State → ℕ → Bool) (c : ℕ) (t : Bool) (steps : List Micro) → ((s : State) → Stands m s → t ≡ test s c) → t ≡ false → Adds m step test (c ∷ []) steps steps
adds_not m step test c t steps tells fails = record {
  clocks = [];
  steps = sym (append-nil steps);
  there = refl;
  told = λ s stands. ap (λ (b : Bool). cond b (c ∷ []) []) (sym fails ∙ tells s stands);
}

-- those of one list, and then those of another
pub adds_more : (m : Parts) (step : ℕ → List Micro) (test : State → ℕ → Bool) (xs ys : List ℕ) (before mid after : List Micro) → Adds m step test xs before mid → Adds m step test ys mid after → Adds m step test (xs ++ ys) before after
adds_more m step test xs ys before mid after one two = record {
  clocks = one.clocks ++ two.clocks;
  steps = two.steps ∙ ap (λ (ms : List Micro). ms ++ flat_map step two.clocks) one.steps ∙ append_assoc before (flat_map step one.clocks) (flat_map step two.clocks)
      ∙ ap (λ (ms : List Micro). before ++ ms) (sym (flat_append step one.clocks two.clocks));
  there = list_all-append (registered m.tree.clocks) one.clocks two.clocks one.there two.there;
  told = λ s stands.
      ap (λ (cs : List ℕ). cs ++ two.clocks) (one.told s stands) ∙ ap (λ (cs : List ℕ). filter (test s) xs ++ cs) (two.told s stands) ∙ sym (filtered_append (test s) xs ys);
}

-- one clock more of an order
pub take_one : (xs : List ClockId) (k : ℕ) (c : ClockId) → slice_get xs k ≡ Some c → take (k + 1) (places xs) ≡ take k (places xs) ++ c.0 ∷ []
take_one [] k c at = absurd cc
take_one (x ∷ xs) zero c at = let same : x ≡ c = cc in ap (λ (y : ClockId). y.0 ∷ []) same
take_one (x ∷ xs) (suc k) c at =
    let same : suc k + 1 ≡ suc (k + 1) = omega arith in
    ap (λ (n : ℕ). take n (places (x ∷ xs))) same ∙ ap (λ (ys : List ℕ). x.0 ∷ ys) (take_one xs k c at)

pub adds_on : (m : Parts) (step : ℕ → List Micro) (test : State → ℕ → Bool) (order : List ClockId) (k : ℕ) (c : ClockId) (before mid after : List Micro) → slice_get order k ≡ Some c
    → Adds m step test (take k (places order)) before mid → Adds m step test (places (c ∷ [])) mid after → Adds m step test (take (k + 1) (places order)) before after
adds_on m step test order k c before mid after at so_far one =
    subst (λ (xs : List ℕ). Adds m step test xs before after) (sym (take_one order k c at)) (adds_more m step test (take k (places order)) (c.0 ∷ []) before mid after so_far one)

pub take_whole : (xs : List ClockId) (k : ℕ) → length xs ≤ k → take k (places xs) ≡ places xs
take_whole [] zero le = refl
take_whole [] (suc k) le = refl
take_whole (x ∷ xs) zero le = absurd (omega arith)
take_whole (x ∷ xs) (suc k) le = ap (λ (ys : List ℕ). x.0 ∷ ys) (take_whole xs k (omega arith))

pub adds_all : (m : Parts) (step : ℕ → List Micro) (test : State → ℕ → Bool) (order : List ClockId) (k : ℕ) (before after : List Micro) → length order ≤ k
    → Adds m step test (take k (places order)) before after → Adds m step test (places order) before after
adds_all m step test order k before after past so_far = subst (λ (xs : List ℕ). Adds m step test xs before after) (take_whole order k past) so_far

pub all_at : (p : ℕ → Bool) (xs : List ClockId) (k : ℕ) (c : ClockId) → slice_get xs k ≡ Some c → list_all p (places xs) ≡ true → p c.0 ≡ true
all_at p [] k c at all = absurd cc
all_at p (x ∷ xs) zero c at all = let same : x ≡ c = cc in ap (λ (y : ClockId). p y.0) (sym same) ∙ both_left (p x.0) _ all
all_at p (x ∷ xs) (suc k) c at all = all_at p xs k c at (both_right (p x.0) _ all)

-- ---- the order

all_filtered : (p q : ℕ → Bool) (xs : List ℕ) → list_all p xs ≡ true → list_all p (filter q xs) ≡ true
all_filtered p q [] all = refl
all_filtered p q (x ∷ xs) all = by (q x) (all_filtered p q xs (both_right (p x) _ all)) where
  by : (t : Bool) → list_all p (filter q xs) ≡ true → list_all p (cond t (x ∷ filter q xs) (filter q xs)) ≡ true
  by true rest = ap (λ (b : Bool). b && list_all p (filter q xs)) (both_left (p x) _ all) ∙ rest
  by false rest = rest

all_flat : (p : ℕ → Bool) (f : ℕ → List ℕ) (xs : List ℕ) → ((x : ℕ) → p x ≡ true → list_all p (f x) ≡ true) → list_all p xs ≡ true → list_all p (flat_map f xs) ≡ true
all_flat p f [] each all = refl
all_flat p f (x ∷ xs) each all = list_all-append p (f x) (flat_map f xs) (each x (both_left (p x) _ all)) (all_flat p f xs each (both_right (p x) _ all))

all_trees : (p : ℕ → Bool) (kids : ℕ → List ℕ) (levels c : ℕ) → ((x : ℕ) → list_all p (kids x) ≡ true) → p c ≡ true → list_all p (tree_within kids levels c) ≡ true
all_trees p kids zero c each here = refl
all_trees p kids (suc levels) c each here =
    list_all-append p (flat_map (tree_within kids levels) (kids c)) (c ∷ []) (all_flat p (tree_within kids levels) (kids c) (λ x at. all_trees p kids levels x each at) (each c)) (ap (λ (b : Bool). b && true) here)

all_listed : (p : ℕ → Bool) (xs : List ℕ) → ((c : ℕ) → is_in c xs ≡ true → p c ≡ true) → list_all p xs ≡ true
all_listed p [] each = refl
all_listed p (x ∷ xs) each =
    ap (λ (b : Bool). b && list_all p xs) (each x (is_in_head x xs)) ∙ all_listed p xs (λ c m. each c (is_in_tail c x xs m))

-- the clocks of the order are registered
pub order_there : (m : Parts) → IsWhole m → list_all (registered m.tree.clocks) (sweep_order (bare m)) ≡ true
unfolding sweep_order
order_there m whole =
    all_flat there (tree_within (children m.tree.order m.tree.clocks) depth) (roots m.desc.defs m.tree.order ++ orphans m.desc.defs m.tree.order m.tree.clocks)
    (λ x here. all_trees there (children m.tree.order m.tree.clocks) depth x (λ p. all_filtered there _ m.tree.order listed) here)
    (list_all-append there (roots m.desc.defs m.tree.order) (orphans m.desc.defs m.tree.order m.tree.clocks) (all_filtered there _ m.tree.order listed) (all_filtered there _ m.tree.order listed)) where
      there : ℕ → Bool
      there = registered m.tree.clocks

      listed : list_all (registered m.tree.clocks) m.tree.order ≡ true
      listed = all_listed (registered m.tree.clocks) m.tree.order (λ c at. sym (whole.tied.stands.order_lists.listed c) ∙ at)

-- the order of the parts is that of each state that they stand for
pub order_stands : (m : Parts) (s : State) → Stands m s → sweep_order (bare m) ≡ sweep_order s
unfolding sweep_order
order_stands m s stands =
    ap (λ (ds : Description). flat_map (tree_within (children m.tree.order m.tree.clocks) depth) (roots ds m.tree.order ++ orphans ds m.tree.order m.tree.clocks)) (sym stands.defs)
    ∙ ap (λ (xs : List ℕ). flat_map (tree_within (children xs m.tree.clocks) depth) (roots s.defs xs ++ orphans s.defs xs m.tree.clocks)) (sym stands.order)
    ∙ ap (λ (rs : List _). flat_map (tree_within (children s.order rs) depth) (roots s.defs s.order ++ orphans s.defs s.order rs)) (sym stands.clocks)

-- ---- the script

-- the parents that clocks are attached to are registered
abbrev pub HasParents : Parts → Type 0
HasParents m = (c x : ℕ) → link_in m.tree.clocks c ≡ Some x → registered m.tree.clocks x ≡ true

pub has_parents : (p m : Parts) → IsWhole p → p ≡ m → HasParents m
has_parents p m whole same = subst (λ (q : Parts). HasParents q) same whole.tied.stands.links

-- the steps that close a gate, while its parent runs or not
closes_one : (there : ℕ → Bool) (o : Option ℕ) (c : ℕ) (ms : List Micro) → ((x : ℕ) → o ≡ Some x → there x ≡ true) → there c ≡ true → is_script call.Sweep there ms ≡ true
    → is_script call.Sweep there (fed_step o (micro.Close (clock_id c)) ++ ms) ≡ true
closes_one there None c ms runs here rest = ap (λ (b : Bool). b && is_script call.Sweep there ms) here ∙ rest
closes_one there (Some x) c ms runs here rest = seven (there x) (there c) (is_script call.Sweep there ms) (runs x refl) here rest where
  seven : (x c r : Bool) → x ≡ true → c ≡ true → r ≡ true → ((x || false) && (x && (x && (c && (x && (x && (x && r))))))) ≡ true
  seven true true true a b c = refl
  seven false c r a b c' = absurd cc
  seven true false r a b c = absurd cc
  seven true true false a b c = absurd cc

swept_first : (there : ℕ → Bool) (defs : Description) (clocks : List ClockRow) (cs : List ℕ) (ms : List Micro) → ((c x : ℕ) → link_in clocks c ≡ Some x → there x ≡ true) → list_all there cs ≡ true
    → is_script call.Sweep there ms ≡ true → is_script call.Sweep there (flat_map (close_of defs clocks) cs ++ ms) ≡ true
swept_first there defs clocks [] ms linked all rest = rest
swept_first there defs clocks (c ∷ cs) ms linked all rest =
    ap (is_script call.Sweep there) (append_assoc (close_of defs clocks c) (flat_map (close_of defs clocks) cs) ms)
    ∙ closes_one there (cond (runs_parent defs c) (link_in clocks c) None) c (flat_map (close_of defs clocks) cs ++ ms) (runs (runs_parent defs c)) (both_left (there c) _ all)
    (swept_first there defs clocks cs ms linked (both_right (there c) _ all) rest) where
      runs : (t : Bool) (x : ℕ) → cond t (link_in clocks c) None ≡ Some x → there x ≡ true
      runs true x e = linked c x e
      runs false x e = absurd cc

swept_then : (there : ℕ → Bool) (cs : List ℕ) (ms : List Micro) → list_all there cs ≡ true → is_script call.Sweep there ms ≡ true → is_script call.Sweep there (flat_map unpower_steps cs ++ ms) ≡ true
swept_then there [] ms all rest = rest
swept_then there (c ∷ cs) ms all rest =
    ap (λ (b : Bool). b && is_script call.Sweep there (flat_map unpower_steps cs ++ ms)) (both_left (there c) _ all) ∙ swept_then there cs ms (both_right (there c) _ all) rest

-- the steps that were added for an order, and the end
pub record IsSwept (m : Parts) (order : List ℕ) (steps : List Micro) : Type 0 where
  pub mid : List Micro
  pub all : List Micro
  pub closes_ : Adds m (close_steps m) closes order [] mid
  pub unpowers_ : Adds m unpower_steps unpowers order mid all
  pub steps_ : steps ≡ all ++ micro.End ∷ []

steps_are : (m : Parts) (order : List ℕ) (steps : List Micro) (is : IsSwept m order steps) → steps ≡ flat_map (close_steps m) is.closes_.clocks ++ (flat_map unpower_steps is.unpowers_.clocks ++ micro.End ∷ [])
steps_are m order steps is =
    is.steps_ ∙ ap (λ (ms : List Micro). ms ++ micro.End ∷ []) (is.unpowers_.steps ∙ ap (λ (ms : List Micro). ms ++ flat_map unpower_steps is.unpowers_.clocks) is.closes_.steps)
    ∙ append_assoc (flat_map (close_steps m) is.closes_.clocks) (flat_map unpower_steps is.unpowers_.clocks) (micro.End ∷ [])

pub swept_script : (m : Parts) (order : List ℕ) (steps : List Micro) → ((c x : ℕ) → link_in m.tree.clocks c ≡ Some x → registered m.tree.clocks x ≡ true) → IsSwept m order steps
    → is_script call.Sweep (registered m.tree.clocks) steps ≡ true
swept_script m order steps linked is =
    ap (is_script call.Sweep (registered m.tree.clocks)) (steps_are m order steps is)
    ∙ swept_first (registered m.tree.clocks) m.desc.defs m.tree.clocks is.closes_.clocks _ linked is.closes_.there (swept_then (registered m.tree.clocks) is.unpowers_.clocks (micro.End ∷ []) is.unpowers_.there refl)

-- it is that of each state that the parts stand for
pub swept_told : (m : Parts) (order : List ℕ) (steps : List Micro) (s : State) → IsSwept m order steps → Stands m s → order ≡ sweep_order s → steps ≡ sweep_script s
unfolding sweep_script
swept_told m order steps s is stands same =
    steps_are m order steps is
    ∙ ap (λ (cs : List ℕ). flat_map (close_steps m) cs ++ (flat_map unpower_steps is.unpowers_.clocks ++ micro.End ∷ [])) (is.closes_.told s stands ∙ ap (filter (closes s)) same)
    ∙ ap (λ (cs : List ℕ). flat_map (close_steps m) (filter (closes s) (sweep_order s)) ++ (flat_map unpower_steps cs ++ micro.End ∷ [])) (is.unpowers_.told s stands ∙ ap (filter (unpowers s)) same)
    ∙ ap (λ (ds : Description). flat_map (close_of ds m.tree.clocks) (filter (closes s) (sweep_order s)) ++ (flat_map unpower_steps (filter (unpowers s) (sweep_order s)) ++ micro.End ∷ [])) (sym stands.defs)
    ∙ ap (λ (rows : List ClockRow). flat_map (close_of s.defs rows) (filter (closes s) (sweep_order s)) ++ (flat_map unpower_steps (filter (unpowers s) (sweep_order s)) ++ micro.End ∷ [])) (sym stands.clocks)
    ∙ ap (λ (ms : List Micro). flat_map (close_of s.defs s.clocks) (filter (closes s) (sweep_order s)) ++ (ms ++ micro.End ∷ [])) (mapped (filter (unpowers s) (sweep_order s)))
    ∙ sym (append_assoc (flat_map (close_of s.defs s.clocks) (filter (closes s) (sweep_order s))) (map (λ c. micro.Unpower (clock_id c)) (filter (unpowers s) (sweep_order s))) (micro.End ∷ [])) where
      mapped : (cs : List ℕ) → flat_map unpower_steps cs ≡ map (λ c. micro.Unpower (clock_id c)) cs
      mapped [] = refl
      mapped (c ∷ cs) = ap (λ (ms : List Micro). micro.Unpower (clock_id c) ∷ ms) (mapped cs)

-- it visits no clock
pub swept_unvisited : (s : State) → list_any is_visit (sweep_script s) ≡ false
swept_unvisited s = sweep_has_no is_visit s feeds (λ c. refl) (λ c. refl) refl where
  feeds : NoFeeding is_visit
  feeds (micro.Visit c) e = absurd cc
  feeds _ e = refl
