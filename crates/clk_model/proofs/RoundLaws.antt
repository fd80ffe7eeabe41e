-- Laws on rounding: what holds of each way to round holds of the rounding; so its best parent is a possible parent, and the clock's link
-- or rooted.
use Rattle.std.proofs.Common.{◌≡◌, ℕ, Bool, true, false, ◌&&◌, cond, List, [], ◌∷◌, Option, Some, None, refl, sym, ap, subst, ◌∙◌, ◌⊎◌, inl, inr}
use Rattle.std.specs.Prelude.{◌*◌, ◌/◌, ◌==◌, nat_le, nat_lt, max, filter, fold, find, IfSome, option_map, option_and_then}
use Rattle.std.specs.List.{filter_map, cons_option, AllByRecursion}
use Rattle.std.specs.Option.{option_map_or}
use Rattle.std.specs.Int.{div_ceil}
use Rattle.clk_base.specs.declared.clock.Kind.{Kind}
use Rattle.clk_base.specs.declared.clock.Kind.TheVariants.{FixedRate, Factor, Gate, Mux, Divider, Pll}
use Rattle.clk_base.specs.Description.{kind_of, parents_of}
use Rattle.clk_base.specs.Flags.{keeps_parent, sets_rate_parent}
use Rattle.kind_math.specs.Rates.{capped, factor_rate}
use Rattle.kind_math.specs.Choices.{greatest_of}
use Rattle.kind_math.specs.Dividers.{valid_divisors, div_round}
use Rattle.clk_model.specs.Lists.{is_in}
use Rattle.clk_model.specs.Kinds.{can_round}
use Rattle.clk_model.specs.State.{link_in}
use Rattle.clk_model.specs.Tree.{rooted}
use Rattle.clk_model.specs.Rate.{style_of}
use Rattle.clk_model.specs.Round.{Wiring, View, Rounded, most_rate, rate_in, parent_rate_in, over_parent, passes_on, through, over_link, better, best_of, by_divisor, over_candidate, by_candidate, by_kind, clamped, round_by}
use Rattle.clk_model.proofs.Members.{is_in_head, is_in_tail}
use Rattle.clk_model.specs.Wired.{LinksArePossible}
use Rattle.clk_model.proofs.OnceLaws.{is_in-filter, filter_passes}

-- ---- ways to round

-- what holds of each way to round: the parent stays; the linked parent is asked; another rooted parent gives its rounding or its rate
pub record KeepsRounding (ask : ℕ → ℕ → Option ℕ) (w : Wiring) (c : ℕ) (P : Rounded → Type 0) : Type 0 where
  pub stays : (r : ℕ) → P (over_parent w c r)
  pub linked : (own : ℕ → ℕ) (p x r : ℕ) → link_in w.clocks c ≡ Some p → ask p x ≡ Some r → P (through own p r)
  pub picks : (p r : ℕ) → is_in p (parents_of w.defs c) ≡ true → rooted w.defs w.clocks p ≡ true → ((x : ℕ) × (ask p x ≡ Some r)) ⊎ (r ≡ rate_in w p) → P (through (λ r. r) p r)

round_through : (P : Rounded → Type 0) (p : ℕ) (own : ℕ → ℕ) (o : Option ℕ) → ((r : ℕ) → o ≡ Some r → P (through own p r)) → IfSome (option_map (through own p) o) P
round_through P p own None each = tt
round_through P p own (Some r) each = each r refl

round_linked : (P : Rounded → Type 0) (own : ℕ → ℕ) (ask : ℕ → Option ℕ) (o : Option ℕ) → ((p r : ℕ) → o ≡ Some p → ask p ≡ Some r → P (through own p r))
    → IfSome (option_and_then (λ p. option_map (through own p) (ask p)) o) P
round_linked P own ask None each = tt
round_linked P own ask (Some p) each = round_through P p own (ask p) (λ r e. each p r refl e)

round_link : (P : Rounded → Type 0) (ask : ℕ → ℕ → Option ℕ) (w : Wiring) (c x : ℕ) (own : ℕ → ℕ) → KeepsRounding ask w c P → IfSome (over_link ask w c x own) P
round_link P ask w c x own keeps = round_linked P own (λ p. ask p x) (link_in w.clocks c) (λ p r e f. keeps.linked own p x r e f)

-- ---- the best of several

round_better : (P : Rounded → Type 0) (x : ℕ) (best : Option Rounded) (r : Rounded) → IfSome best P → P r → IfSome (better x best r) P
round_better P x best r old new =
    elim (nat_le r.rate x && nat_lt (option_map_or (λ b. b.rate) best 0) r.rate) as (λ t. IfSome (cond t (Some r) best) P) [
      | true ↦ new
      | false ↦ old
    ]

pub round_fold : (P : Rounded → Type 0) (x : ℕ) (best : Option Rounded) (tries : List Rounded) → IfSome best P → AllByRecursion P tries
    → IfSome (fold (better x) best tries) P
round_fold P x best [] old each = old
round_fold P x best (r ∷ tries) old each = round_fold P x (better x best r) tries (round_better P x best r old each.0) each.1

round_consed : (P : Rounded → Type 0) (o : Option Rounded) (rs : List Rounded) → IfSome o P → AllByRecursion P rs → AllByRecursion P (cons_option o rs)
round_consed P None rs here rest = rest
round_consed P (Some r) rs here rest = (here, rest)

pub round_tries : (P : Rounded → Type 0) (try : ℕ → Option Rounded) (xs : List ℕ) → ((x : ℕ) → is_in x xs ≡ true → IfSome (try x) P)
    → AllByRecursion P (filter_map try xs)
round_tries P try [] each = tt
round_tries P try (x ∷ xs) each =
    round_consed P (try x) (filter_map try xs) (each x (is_in_head x xs)) (round_tries P try xs (λ y m. each y (is_in_tail y x xs m)))

-- ---- dividers and muxes

pub round_or : (P : Rounded → Type 0) (first second : Option Rounded) → IfSome first P → IfSome second P
    → IfSome (elim first [ Some r ↦ Some r | None ↦ second ]) P
round_or P None second f g = g
round_or P (Some r) second f g = f

round_divisor : (P : Rounded → Type 0) (ask : ℕ → ℕ → Option ℕ) (w : Wiring) (c x : ℕ) (divisors : List ℕ) → KeepsRounding ask w c P → IfSome (by_divisor ask w c x divisors) P
round_divisor P ask w c x divisors keeps = found (filter (λ i. nat_le (x * i) most_rate) divisors) (find (λ i. x * i == parent_rate_in w c) (filter (λ i. nat_le (x * i) most_rate) divisors)) where
  found : (tried : List ℕ) (o : Option ℕ) → IfSome (elim o [
    | Some i ↦ Some (over_parent w c (div_ceil (parent_rate_in w c) i))
    | None ↦ elim (best_of x (filter_map (λ i. over_link ask w c (x * i) (λ r. div_ceil r i)) tried)) [
      | Some r ↦ Some r
      | None ↦ over_link ask w c 1 (λ r. div_ceil r (greatest_of divisors))
    ]
  ]) P
  found tried (Some i) = keeps.stays (div_ceil (parent_rate_in w c) i)
  found tried None =
      round_or P (best_of x (filter_map (λ i. over_link ask w c (x * i) (λ r. div_ceil r i)) tried)) (over_link ask w c 1 (λ r. div_ceil r (greatest_of divisors)))
      (round_fold P x None _ tt (round_tries P (λ i. over_link ask w c (x * i) (λ r. div_ceil r i)) tried (λ i m. round_link P ask w c (x * i) (λ r. div_ceil r i) keeps)))
      (round_link P ask w c 1 (λ r. div_ceil r (greatest_of divisors)) keeps)

round_candidate : (P : Rounded → Type 0) (ask : ℕ → ℕ → Option ℕ) (w : Wiring) (c x : ℕ) → KeepsRounding ask w c P → IfSome (by_candidate ask w c x) P
round_candidate P ask w c x keeps =
    round_fold P x None _ tt
    (round_tries P (over_candidate ask w c x) (filter (rooted w.defs w.clocks) (parents_of w.defs c))
    (λ p m. round_through P p (λ r. r) (elim (sets_rate_parent w.defs c) [ true ↦ ask p x | false ↦ Some (rate_in w p) ])
    (λ r e. keeps.picks p r (is_in-filter (rooted w.defs w.clocks) p (parents_of w.defs c) m) (filter_passes (rooted w.defs w.clocks) p (parents_of w.defs c) m)
    (given (sets_rate_parent w.defs c) p r e)))) where
      given : (t : Bool) (p r : ℕ) → elim t [ true ↦ ask p x | false ↦ Some (rate_in w p) ] ≡ Some r → ((y : ℕ) × (ask p y ≡ Some r)) ⊎ (r ≡ rate_in w p)
      given true p r e = inl (x, e)
      given false p r e = inr cc

-- ---- each kind

round_kind : (P : Rounded → Type 0) (ask : ℕ → ℕ → Option ℕ) (w : Wiring) (kind : Kind) (c x : ℕ) → KeepsRounding ask w c P → IfSome (by_kind ask w kind c x) P
round_kind P ask w (FixedRate rate) c x keeps = keeps.stays (rate_in w c)
round_kind P ask w (Gate word bit set_to_disable) c x keeps = keeps.stays (rate_in w c)
round_kind P ask w (Factor mult div) c x keeps = both (passes_on w c) where
  both : (t : Bool) → IfSome (elim t [
    | true ↦ over_link ask w c (capped (x / mult * div)) (λ r. factor_rate r mult div)
    | false ↦ Some (over_parent w c (rate_in w c))
  ]) P
  both true = round_link P ask w c (capped (x / mult * div)) (λ r. factor_rate r mult div) keeps
  both false = keeps.stays (rate_in w c)
round_kind P ask w (Divider word shift width one_based power_of_two) c x keeps = both (passes_on w c) where
  both : (t : Bool) → IfSome (elim t [
    | true ↦ by_divisor ask w c (max x 1) (valid_divisors (style_of one_based power_of_two) width)
    | false ↦ Some (over_parent w c (div_ceil (parent_rate_in w c) (div_round (parent_rate_in w c) x width (style_of one_based power_of_two))))
  ]) P
  both true = round_divisor P ask w c (max x 1) (valid_divisors (style_of one_based power_of_two) width) keeps
  both false = keeps.stays _
round_kind P ask w (Mux word shift width read_only) c x keeps = both (keeps_parent w.defs c) (passes_on w c) where
  both : (t u : Bool) → IfSome (elim t [
    | true ↦ elim u [ true ↦ over_link ask w c x (λ r. r) | false ↦ Some (over_parent w c (parent_rate_in w c)) ]
    | false ↦ by_candidate ask w c x
  ]) P
  both true true = round_link P ask w c x (λ r. r) keeps
  both true false = keeps.stays (parent_rate_in w c)
  both false u = round_candidate P ask w c x keeps
round_kind P ask w (Pll word shift width power_word power_bit least most m) c x keeps = keeps.stays _

-- so it holds of the rounding
pub round_keeps : (P : Rounded → Type 0) (ask : ℕ → ℕ → Option ℕ) (w : Wiring) (view : View) (c x : ℕ) → KeepsRounding ask w c P → IfSome (round_by ask w view c x) P
round_keeps P ask w view c x keeps = both (can_round (kind_of w.defs c)) (passes_on w c) (view.guarded c) where
  both : (t u g : Bool) → IfSome (elim t [
    | false ↦ elim u [ true ↦ over_link ask w c x (λ r. r) | false ↦ Some (over_parent w c (rate_in w c)) ]
    | true ↦ elim g [
      | true ↦ Some (over_parent w c (rate_in w c))
      | false ↦ by_kind ask w (kind_of w.defs c) c (clamped view c x)
    ]
  ]) P
  both false true g = round_link P ask w c x (λ r. r) keeps
  both false false g = keeps.stays (rate_in w c)
  both true u true = keeps.stays (rate_in w c)
  both true u false = round_kind P ask w (kind_of w.defs c) c (clamped view c x) keeps

-- ---- parents

-- the best parent of a rounding is a possible parent, and it is the clock's link or rooted; there is none only where the clock has no link
pub record Fits (w : Wiring) (c : ℕ) (r : Rounded) : Type 0 where
  pub possible : (p : ℕ) → r.parent ≡ Some p → is_in p (parents_of w.defs c) ≡ true
  pub from : (p : ℕ) → r.parent ≡ Some p → (link_in w.clocks c ≡ Some p) ⊎ (rooted w.defs w.clocks p ≡ true)
  pub none : r.parent ≡ None → link_in w.clocks c ≡ None

-- whatever a parent answers
pub fits_round : (ask : ℕ → ℕ → Option ℕ) (w : Wiring) (view : View) (c x : ℕ) → LinksArePossible w.defs w.clocks → IfSome (round_by ask w view c x) (Fits w c)
fits_round ask w view c x links = round_keeps (Fits w c) ask w view c x (record {
  stays = λ r. record { possible = λ p e. links c p e; from = λ p e. inl e; none = λ e. e };
  linked = λ own p y r at said. fits_through own p r (links c p at) (inl at);
  picks = λ p r m root said. fits_through (λ r. r) p r m (inr root);
}) where
  fits_through : (own : ℕ → ℕ) (p r : ℕ) → is_in p (parents_of w.defs c) ≡ true → (link_in w.clocks c ≡ Some p) ⊎ (rooted w.defs w.clocks p ≡ true) → Fits w c (through own p r)
  fits_through own p r m from = record {
    possible = λ q e. let same : p ≡ q = cc in ap (λ (x : ℕ). is_in x (parents_of w.defs c)) (sym same) ∙ m;
    from = λ q e. let same : p ≡ q = cc in subst (λ (x : ℕ). (link_in w.clocks c ≡ Some x) ⊎ (rooted w.defs w.clocks x ≡ true)) same from;
    none = λ e. absurd cc;
  }
