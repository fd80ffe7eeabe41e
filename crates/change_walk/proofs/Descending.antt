-- Laws on a walk that is gone through once: it finds the clocks that change with all above them.
use Rattle.std.proofs.Common.{◌≡◌, ℕ, zero, suc, Bool, true, false, not, ◌&&◌, ◌||◌, cond, List, [], ◌∷◌, ◌++◌, map, Option, Some, refl, sym, ap, ◌∙◌, append_assoc, append-nil, nat_eq}
use Rattle.std.specs.Prelude.{◌==◌, filter, flat_map}
use Rattle.std.proofs.lemmas.List.{map-append}
use Rattle.clk_model.specs.Chain.{clock_id}
use Rattle.clk_model.specs.Lists.{is_in}
use Rattle.clk_model.specs.Walk.{below_within}
use Rattle.clk_model.proofs.Members.{test_same, not_either, is_in_head, is_in_tail}
use Rattle.clk_model.proofs.OnceLaws.{is_in-append}
use Rattle.clk_tree.specs.Plans.{ClockRate}
use Rattle.change_walk.specs.declared.changes.Changed.{Changed}
use Rattle.change_walk.specs.declared.changes.Passed.{Passed}
use Rattle.change_walk.specs.Changes.{back_to, changes, changed_to, changed_along}
use Rattle.clk_model.proofs.BalanceLaws.{other_way}

-- a clock with its rate in the outcome
abbrev pub rated_at : (ℕ → ℕ) → ℕ → ClockRate
rated_at rated c = record { clock = c; rate = rated c }

-- a clock with its rate before and after
abbrev pub turned_to : (ℕ → ℕ) → (ℕ → ℕ) → ℕ → Changed
turned_to before rated c = record { clock = clock_id c; before = before c; after = rated c }

-- whether the rate of a clock differs
abbrev pub turns : (ℕ → ℕ) → (ℕ → ℕ) → ℕ → Bool
turns before rated c = not (rated c == before c)

-- what is found among clocks that are gone through when these were passed
abbrev pub found : (ℕ → Option ℕ) → (ℕ → ℕ) → (ℕ → ℕ) → List Passed → List ℕ → List Changed
found up before rated passed cs = changed_along up before passed (map (rated_at rated) cs)

-- the kids of a clock have it as their parent, and it isn't below itself
pub record Descends (kids : ℕ → List ℕ) (up : ℕ → Option ℕ) : Type 0 where
  pub parent : (c p : ℕ) → is_in c (kids p) ≡ true → up c ≡ Some p
  pub apart : (levels c : ℕ) → is_in c (flat_map (below_within kids levels) (kids c)) ≡ false

-- ---- going back

abbrev passed_by : ℕ → Bool → Passed
passed_by c t = record { clock = clock_id c; changes = t }

abbrev pub clocks_of : List Passed → List ℕ
clocks_of ps = map (λ p. p.clock.0) ps

-- over what isn't the parent, one goes back to the parent
back_here : (p : ℕ) (t : Bool) (front behind : List Passed) → is_in p (clocks_of front) ≡ false → back_to (Some p) (front ++ passed_by p t ∷ behind) ≡ passed_by p t ∷ behind
back_here p t [] behind out = ap (λ (b : Bool). cond b (passed_by p t ∷ behind) (back_to (Some p) behind)) (test_same p)
back_here p t (o ∷ front) behind out =
    let parts = not_either (nat_eq o.clock.0 p) (is_in p (clocks_of front)) out in
    ap (λ (b : Bool). cond b (o ∷ front ++ passed_by p t ∷ behind) (back_to (Some p) (front ++ passed_by p t ∷ behind))) (other_way o.clock.0 p parts.0)
    ∙ back_here p t front behind parts.1

-- ---- what is found below a clock

-- what is left of those passed has no clock but those there before and these
abbrev Clear : List Passed → List Passed → List ℕ → Type 0
Clear front left xs = (q : ℕ) → is_in q (clocks_of front) ≡ false → is_in q xs ≡ false → is_in q (clocks_of left) ≡ false

-- when clocks were gone through below a parent, these were found, and one goes on below that parent
record Goes (up : ℕ → Option ℕ) (before rated : ℕ → ℕ) (p : ℕ) (t : Bool) (front behind : List Passed) (xs rest found_here : List ℕ) : Type 0 where
  left : List Passed
  clear : Clear front left xs
  is : found up before rated (front ++ passed_by p t ∷ behind) (xs ++ rest) ≡ map (turned_to before rated) found_here ++ found up before rated (left ++ passed_by p t ∷ behind) rest

-- the kids that differ
abbrev pub turning : (ℕ → List ℕ) → (ℕ → ℕ) → (ℕ → ℕ) → ℕ → List ℕ
turning kids before rated p = filter (turns before rated) (kids p)

abbrev OneGoes : (ℕ → List ℕ) → (ℕ → Option ℕ) → (ℕ → ℕ) → (ℕ → ℕ) → ℕ → Type 0
OneGoes kids up before rated levels =
    (d p : ℕ) (t : Bool) (front behind : List Passed) (rest : List ℕ) → up d ≡ Some p → is_in p (clocks_of front) ≡ false
    → Goes up before rated p t front behind (below_within kids levels d) rest (cond (t && turns before rated d) (below_within (turning kids before rated) levels d) [])

not_in_both : (q : ℕ) (xs ys : List ℕ) → is_in q (xs ++ ys) ≡ false → (is_in q xs ≡ false) × (is_in q ys ≡ false)
not_in_both q xs ys out = not_either (is_in q xs) (is_in q ys) (sym (is_in-append q xs ys) ∙ out)

none_found : (t : Bool) (none : List ℕ) → cond t none none ≡ none
none_found true none = refl
none_found false none = refl

more_found : (f : ℕ → List ℕ) (t b : Bool) (d : ℕ) (kept : List ℕ) → cond (t && b) (f d) [] ++ cond t (flat_map f kept) [] ≡ cond t (flat_map f (cond b (d ∷ kept) kept)) []
more_found f false b d kept = refl
more_found f true true d kept = refl
more_found f true false d kept = refl

all_go : (kids : ℕ → List ℕ) (up : ℕ → Option ℕ) (before rated : ℕ → ℕ) (levels : ℕ) → OneGoes kids up before rated levels
    → (ds : List ℕ) (p : ℕ) (t : Bool) (front behind : List Passed) (rest : List ℕ) → ((d : ℕ) → is_in d ds ≡ true → up d ≡ Some p)
    → is_in p (flat_map (below_within kids levels) ds) ≡ false → is_in p (clocks_of front) ≡ false
    → Goes up before rated p t front behind (flat_map (below_within kids levels) ds) rest (cond t (flat_map (below_within (turning kids before rated) levels) (filter (turns before rated) ds)) [])
all_go kids up before rated levels one [] p t front behind rest each out clear_ = record {
  left = front;
  clear = λ q a b. a;
  is = ap (λ (xs : List ℕ). map (turned_to before rated) xs ++ found up before rated (front ++ passed_by p t ∷ behind) rest) (sym (none_found t []));
}
all_go kids up before rated levels one (d ∷ ds) p t front behind rest each out clear_ =
    let low : List ℕ = below_within kids levels d in
    let others : List ℕ = flat_map (below_within kids levels) ds in
    let parts = not_in_both p low others out in
    let first = one d p t front behind (others ++ rest) (each d (is_in_head d ds)) clear_ in
    let next = all_go kids up before rated levels one ds p t first.left behind rest (λ x m. each x (is_in_tail x d ds m)) parts.1 (first.clear p clear_ parts.0) in
    let here : List ℕ = cond (t && turns before rated d) (below_within (turning kids before rated) levels d) [] in
    let there : List ℕ = cond t (flat_map (below_within (turning kids before rated) levels) (filter (turns before rated) ds)) [] in
    let end : List Changed = found up before rated (next.left ++ passed_by p t ∷ behind) rest in
    record {
      left = next.left;
      clear = λ q a b. let both = not_in_both q low others b in next.clear q (first.clear q a both.0) both.1;
      is = ap (λ (xs : List ℕ). found up before rated (front ++ passed_by p t ∷ behind) xs) (append_assoc low others rest)
          ∙ first.is
          ∙ ap (λ (xs : List Changed). map (turned_to before rated) here ++ xs) next.is
          ∙ sym (append_assoc (map (turned_to before rated) here) (map (turned_to before rated) there) end)
          ∙ ap (λ (xs : List Changed). xs ++ end) (sym (map-append (turned_to before rated) here there) ∙ ap (map (turned_to before rated)) (more_found (below_within (turning kids before rated) levels) t (turns before rated d) d (filter (turns before rated) ds)));
    }

-- a clock and what is found below it
with_below : (f : ℕ → Changed) (t : Bool) (d : ℕ) (xs : List ℕ) → cond t (f d ∷ []) [] ++ map f (cond t xs []) ≡ map f (cond t (d ∷ xs) [])
with_below f true d xs = refl
with_below f false d xs = refl

one_goes : (kids : ℕ → List ℕ) (up : ℕ → Option ℕ) (before rated : ℕ → ℕ) → Descends kids up → (levels : ℕ) → OneGoes kids up before rated levels
one_goes kids up before rated fits zero d p t front behind rest link clear_ = record {
  left = front;
  clear = λ q a b. a;
  is = ap (λ (xs : List ℕ). map (turned_to before rated) xs ++ found up before rated (front ++ passed_by p t ∷ behind) rest) (sym (none_found (t && turns before rated d) []));
}
one_goes kids up before rated fits (suc levels) d p t front behind rest link clear_ =
    let low : List ℕ = flat_map (below_within kids levels) (kids d) in
    let here : Bool = t && turns before rated d in
    let up_to : List Passed = passed_by p t ∷ behind in
    let below : List ℕ = flat_map (below_within (turning kids before rated) levels) (turning kids before rated d) in
    let go = all_go kids up before rated levels (one_goes kids up before rated fits levels) (kids d) d here [] up_to rest (λ x m. fits.parent x d m) (fits.apart levels d) refl in
    let end : List Changed = found up before rated (go.left ++ passed_by d here ∷ up_to) rest in
    record {
      left = go.left ++ passed_by d here ∷ [];
      clear = λ q a b.
          let parts = not_either (nat_eq d q) (is_in q low) b in
          ap (is_in q) (map-append (λ (x : Passed). x.clock.0) go.left (passed_by d here ∷ []))
          ∙ is_in-append q (clocks_of go.left) (d ∷ [])
          ∙ ap (λ (b' : Bool). b' || (nat_eq d q || false)) (go.clear q refl parts.1)
          ∙ ap (λ (b' : Bool). b' || false) parts.0;
      is = ap (λ (above : List Passed). cond (changes before above (rated_at rated d)) (changed_to before (rated_at rated d) ∷ []) [] ++ found up before rated (passed_by d (changes before above (rated_at rated d)) ∷ above) (low ++ rest))
          (ap (λ (o : Option ℕ). back_to o (front ++ up_to)) link ∙ back_here p t front behind clear_)
          ∙ ap (λ (xs : List Changed). cond here (turned_to before rated d ∷ []) [] ++ xs) go.is
          ∙ sym (append_assoc (cond here (turned_to before rated d ∷ []) []) (map (turned_to before rated) (cond here below [])) end)
          ∙ ap (λ (xs : List Changed). xs ++ end) (with_below (turned_to before rated) here d below)
          ∙ ap (λ (ps : List Passed). map (turned_to before rated) (cond here (d ∷ below) []) ++ found up before rated ps rest) (sym (append_assoc go.left (passed_by d here ∷ []) up_to));
    }

-- from the top of a walk on, those are found that are reached over clocks that differ alone
pub all_found : (kids : ℕ → List ℕ) (up : ℕ → Option ℕ) (before rated : ℕ → ℕ) (levels t : ℕ) → Descends kids up
    → found up before rated [] (below_within kids levels t) ≡ map (turned_to before rated) (cond (turns before rated t) (below_within (turning kids before rated) levels t) [])
all_found kids up before rated zero t fits = ap (map (turned_to before rated)) (sym (none_found (turns before rated t) []))
all_found kids up before rated (suc levels) t fits =
    let low : List ℕ = flat_map (below_within kids levels) (kids t) in
    let here : Bool = turns before rated t in
    let below : List ℕ = flat_map (below_within (turning kids before rated) levels) (turning kids before rated t) in
    let go = all_go kids up before rated levels (one_goes kids up before rated fits levels) (kids t) t here [] [] [] (λ x m. fits.parent x t m) (fits.apart levels t) refl in
    ap (λ (xs : List ℕ). cond here (turned_to before rated t ∷ []) [] ++ found up before rated (passed_by t here ∷ []) xs) (sym (append-nil low))
    ∙ ap (λ (xs : List Changed). cond here (turned_to before rated t ∷ []) [] ++ xs) (go.is ∙ append-nil (map (turned_to before rated) (cond here below [])))
    ∙ with_below (turned_to before rated) here t below
