-- What is said at places in a row, by its number in the list of what is said.
use Rattle.std.proofs.Common.{◌≡◌, ℕ, zero, suc, ◌+◌, ◌<◌, ◌∷◌, length, get_or, take, Option, Some, None, refl, ap, sym, ◌∙◌, arith}
use Rattle.bundle_text.specs.Firsts.{onto, said_from}

-- the thing of this number is said at a place, and those of lower numbers at the places before it
pub record SaidAt {X : Type 0} (said : ℕ → Option X) (from n j : ℕ) (x : X) : Type 0 where
  pub steps : ℕ
  pub within : steps < n
  pub here : said (from + steps) ≡ Some x
  pub earlier : said_from said from steps ≡ take j (said_from said from n)

-- the thing is said at the place with a number
pub record NumberOf {X : Type 0} (said : ℕ → Option X) (from n : ℕ) (x d : X) : Type 0 where
  pub number : ℕ
  pub within : number < length (said_from said from n)
  pub here : get_or (said_from said from n) number d ≡ x

-- at one place more in front, where nothing is said
past : {X : Type 0} (said : ℕ → Option X) (from n j : ℕ) (d : X) → said from ≡ None → SaidAt said (from + 1) n j (get_or (said_from said (from + 1) n) j d)
    → SaidAt said from (suc n) j (get_or (said_from said from (suc n)) j d)
past said from n j d e later =
    let rest = said_from said (from + 1) n in
    let same : onto (said from) rest ≡ rest = ap (λ o. onto o rest) e in
    let there : from + suc later.steps ≡ from + 1 + later.steps = omega arith in
    record {
      steps = suc later.steps;
      within = omega (arith, later.within);
      here = ap said there ∙ (later.here ∙ ap (λ xs. Some (get_or xs j d)) (sym same));
      earlier = ap (λ o. onto o (said_from said (from + 1) later.steps)) e ∙ (later.earlier ∙ ap (take j) (sym same));
    }

-- at the first place, where the thing is said
first : {X : Type 0} (said : ℕ → Option X) (from n : ℕ) (x d : X) → said from ≡ Some x → SaidAt said from (suc n) 0 (get_or (said_from said from (suc n)) 0 d)
first said from n x d e =
    let rest = said_from said (from + 1) n in
    let same : onto (said from) rest ≡ x ∷ rest = ap (λ o. onto o rest) e in
    let there : from + 0 ≡ from = omega arith in
    record {
      steps = 0;
      within = omega arith;
      here = ap said there ∙ (e ∙ ap (λ xs. Some (get_or xs 0 d)) (sym same));
      earlier = refl;
    }

-- behind a first place, where another is said
behind : {X : Type 0} (said : ℕ → Option X) (from n j : ℕ) (x d : X) → said from ≡ Some x → SaidAt said (from + 1) n j (get_or (said_from said (from + 1) n) j d)
    → SaidAt said from (suc n) (suc j) (get_or (said_from said from (suc n)) (suc j) d)
behind said from n j x d e later =
    let rest = said_from said (from + 1) n in
    let same : onto (said from) rest ≡ x ∷ rest = ap (λ o. onto o rest) e in
    let there : from + suc later.steps ≡ from + 1 + later.steps = omega arith in
    record {
      steps = suc later.steps;
      within = omega (arith, later.within);
      here = ap said there ∙ (later.here ∙ ap (λ xs. Some (get_or xs (suc j) d)) (sym same));
      earlier = ap (λ o. onto o (said_from said (from + 1) later.steps)) e ∙ (ap (λ xs. x ∷ xs) later.earlier ∙ ap (take (suc j)) (sym same));
    }

pub said-at : {X : Type 0} (said : ℕ → Option X) (from n j : ℕ) (d : X) → j < length (said_from said from n) → SaidAt said from n j (get_or (said_from said from n) j d)
said-at said from zero j d lt = absurd (omega arith)
said-at said from (suc n) zero d lt =
    elim (said from) as (λ o. said from ≡ o → SaidAt said from (suc n) 0 (get_or (said_from said from (suc n)) 0 d)) [
      | None ↦ λ e.
          let shorter : length (said_from said from (suc n)) ≡ length (said_from said (from + 1) n) = ap (λ o. length (onto o (said_from said (from + 1) n))) e in
          past said from n 0 d e (said-at said (from + 1) n 0 d (omega arith))
      | Some x ↦ λ e. first said from n x d e
    ] refl
said-at said from (suc n) (suc j) d lt =
    elim (said from) as (λ o. said from ≡ o → SaidAt said from (suc n) (suc j) (get_or (said_from said from (suc n)) (suc j) d)) [
      | None ↦ λ e.
          let shorter : length (said_from said from (suc n)) ≡ length (said_from said (from + 1) n) = ap (λ o. length (onto o (said_from said (from + 1) n))) e in
          past said from n (suc j) d e (said-at said (from + 1) n (suc j) d (omega arith))
      | Some x ↦ λ e.
          let longer : length (said_from said from (suc n)) ≡ length (x ∷ said_from said (from + 1) n) = ap (λ o. length (onto o (said_from said (from + 1) n))) e in
          behind said from n j x d e (said-at said (from + 1) n j d (omega arith))
    ] refl

-- what is said at one of the later places, behind what is said at the first
number_behind : {X : Type 0} (said : ℕ → Option X) (from n : ℕ) (x d : X) (o : Option X) → said from ≡ o → NumberOf said (from + 1) n x d → NumberOf said from (suc n) x d
number_behind said from n x d None e later =
    let rest = said_from said (from + 1) n in
    let same : onto (said from) rest ≡ rest = ap (λ o. onto o rest) e in
    record { number = later.number; within = omega (arith, later.within, ap length same); here = ap (λ xs. get_or xs later.number d) same ∙ later.here }
number_behind said from n x d (Some y) e later =
    let rest = said_from said (from + 1) n in
    let same : onto (said from) rest ≡ y ∷ rest = ap (λ o. onto o rest) e in
    record { number = suc later.number; within = omega (arith, later.within, ap length same); here = ap (λ xs. get_or xs (suc later.number) d) same ∙ later.here }

pub number-of : {X : Type 0} (said : ℕ → Option X) (from n k : ℕ) (x d : X) → k < n → said (from + k) ≡ Some x → NumberOf said from n x d
number-of said from zero k x d lt here = absurd (omega arith)
number-of said from (suc n) zero x d lt here =
    let there : from ≡ from + 0 = omega arith in
    let same : onto (said from) (said_from said (from + 1) n) ≡ x ∷ said_from said (from + 1) n = ap (λ o. onto o (said_from said (from + 1) n)) (ap said there ∙ here) in
    record { number = 0; within = omega (arith, ap length same); here = ap (λ xs. get_or xs 0 d) same }
number-of said from (suc n) (suc k) x d lt here =
    let there : from + 1 + k ≡ from + suc k = omega arith in
    number_behind said from n x d (said from) refl (number-of said (from + 1) n k x d (omega arith) (ap said there ∙ here))
