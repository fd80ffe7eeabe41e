-- Laws on guarded clocks: one rounds to the rate that it has, and no plan that begins elsewhere comes to one.
use Rattle.std.proofs.Common.{◌≡◌, ℕ, zero, suc, Bool, true, false, Option, Some, None, refl, sym, ap, subst, ◌∙◌, inl, inr, List, arith}
use Rattle.std.specs.Prelude.{IfSome, option_map, option_and_then}
use Rattle.std.specs.Option.{option_map_or}
use Rattle.std.specs.List.{AllByRecursion}
use Rattle.clk_base.specs.declared.clock.Kind.{Kind}
use Rattle.clk_base.specs.declared.clock.Kind.TheVariants.{FixedRate, Factor, Gate, Mux, Divider, Pll}
use Rattle.clk_base.specs.Description.{kind_of, parents_of}
use Rattle.clk_base.specs.Levels.{depth}
use Rattle.clk_base.specs.Valid.{IsValid}
use Rattle.reg_bank.specs.Registers.{Registers}
use Rattle.std.proofs.lemmas.Bool.Decides.{nat_tests}
use Rattle.clk_model.specs.Lists.{is_at}
use Rattle.clk_model.specs.Kinds.{is_fixed, can_round}
use Rattle.clk_model.specs.State.{State, ChainStep, link_in}
use Rattle.clk_model.specs.Rate.{rate, rate_over}
use Rattle.clk_model.specs.Round.{wiring, Wiring, View, Rounded, rate_in, over_parent, passes_on, through, over_link, by_kind, clamped, round_by, rate_for, round}
use Rattle.clk_model.specs.Chain.{chain}
use Rattle.clk_model.specs.Holders.{protect_holders}
use Rattle.clk_model.specs.Views.{view}
use Rattle.clk_model.proofs.FedLaws.{is_held-parent}
use Rattle.clk_model.specs.Wired.{LinesEnd, LinksArePossible}
use Rattle.clk_model.proofs.RateLaws.{rates_are_over_links}
use Rattle.clk_model.proofs.RoundLaws.{round_keeps}
use Rattle.clk_model.proofs.PlanRootLaws.{chain_all, fixed_no_parent}

-- ---- what stays guarded

-- a view whose guarded clocks have guarded links
abbrev pub GuardsLinks : Wiring → View → Type 0
GuardsLinks w view = (c p : ℕ) → view.guarded c ≡ true → link_in w.clocks c ≡ Some p → view.guarded p ≡ true

-- so it is in each state
pub guards_links : (s : State) → LinesEnd s.defs → LinksArePossible s.defs s.clocks → GuardsLinks (wiring s) (view s)
guards_links s ends links c p held at = is_held-parent (parents_of s.defs) s.clocks (protect_holders s) c p links ends held at

-- what is asked of a guarded clock is answered with the rate that it has
abbrev pub AnswersRates : (ℕ → ℕ → Option ℕ) → Wiring → View → Type 0
AnswersRates ask w view = (p x r : ℕ) → view.guarded p ≡ true → ask p x ≡ Some r → r ≡ rate_in w p

-- ---- rates over links

-- a clock that can't round and has a link has its parent's rate
over_kind : (kind : Kind) (regs : Registers) (x : ℕ) → can_round kind ≡ false → is_fixed kind ≡ false → rate_over kind regs x ≡ x
over_kind (FixedRate rate) regs x can fixed = absurd cc
over_kind (Gate word bit set_to_disable) regs x can fixed = refl
over_kind (Mux word shift width read_only) regs x can fixed = refl
over_kind (Factor mult div) regs x can fixed = absurd cc
over_kind (Divider word shift width one_based power_of_two) regs x can fixed = absurd cc
over_kind (Pll word shift width power_word power_bit least most m) regs x can fixed = absurd cc

rate_of_link : (words : ℕ) (w : Wiring) (c p : ℕ) → IsValid words w.defs → LinesEnd w.defs → LinksArePossible w.defs w.clocks → can_round (kind_of w.defs c) ≡ false → link_in w.clocks c ≡ Some p
    → rate_in w c ≡ rate_in w p
rate_of_link words w c p valid ends links can at = by_fixed (is_fixed (kind_of w.defs c)) refl where
  by_fixed : (t : Bool) → is_fixed (kind_of w.defs c) ≡ t → rate_in w c ≡ rate_in w p
  by_fixed true e = absurd (fixed_no_parent words w.defs c p valid e (links c p at))
  by_fixed false e =
      rates_are_over_links w.defs w.regs w.clocks ends links c
      ∙ over_kind (kind_of w.defs c) w.regs (option_map_or (rate w.defs w.regs w.clocks) (link_in w.clocks c) 0) can e
      ∙ ap (λ (o : Option ℕ). option_map_or (rate w.defs w.regs w.clocks) o 0) at

-- ---- roundings

-- a rounding whose parent is guarded goes on with the rate that this has
abbrev pub Spares : Wiring → View → Rounded → Type 0
Spares w view r = (p : ℕ) → r.parent ≡ Some p → view.guarded p ≡ true → r.parent_rate ≡ rate_in w p

spares_through : (w : Wiring) (view : View) (own : ℕ → ℕ) (p r : ℕ) → (view.guarded p ≡ true → r ≡ rate_in w p) → Spares w view (through own p r)
spares_through w view own p r same q e g =
    let is : p ≡ q = cc in
    subst (λ (x : ℕ). r ≡ rate_in w x) is (same (ap view.guarded is ∙ g))

pub round_spares : (ask : ℕ → ℕ → Option ℕ) (w : Wiring) (view : View) (c x : ℕ) → AnswersRates ask w view → IfSome (round_by ask w view c x) (Spares w view)
round_spares ask w view c x answers = round_keeps (Spares w view) ask w view c x (record {
  stays = λ r p e g. ap (λ (o : Option ℕ). option_map_or (rate_in w) o 0) e;
  linked = λ own p y r at said. spares_through w view own p r (λ g. answers p y r g said);
  picks = λ p r m root said. spares_through w view (λ y. y) p r (λ g. elim said [ inl asked ↦ answers p asked.0 r g asked.1 | inr own ↦ own ]);
})

-- a guarded clock rounds to the rate that it has
abbrev HasRate : Wiring → ℕ → Rounded → Type 0
HasRate w c r = r.rate ≡ rate_in w c

link_rate : (w : Wiring) (c : ℕ) (ask : ℕ → Option ℕ) (o : Option ℕ) → ((p r : ℕ) → o ≡ Some p → ask p ≡ Some r → r ≡ rate_in w c)
    → IfSome (option_and_then (λ p. option_map (through (λ r. r) p) (ask p)) o) (HasRate w c)
link_rate w c ask None each = tt
link_rate w c ask (Some p) each = by_answer (ask p) refl where
  by_answer : (a : Option ℕ) → ask p ≡ a → IfSome (option_map (through (λ r. r) p) a) (HasRate w c)
  by_answer None e = tt
  by_answer (Some r) e = each p r refl e

guarded_round : (words : ℕ) (ask : ℕ → ℕ → Option ℕ) (w : Wiring) (view : View) (c x : ℕ) → IsValid words w.defs → LinesEnd w.defs → LinksArePossible w.defs w.clocks → GuardsLinks w view
    → AnswersRates ask w view → view.guarded c ≡ true → IfSome (round_by ask w view c x) (HasRate w c)
guarded_round words ask w view c x valid ends links up answers g = both (can_round (kind_of w.defs c)) refl (passes_on w c) (view.guarded c) g where
  both : (t : Bool) → can_round (kind_of w.defs c) ≡ t → (u h : Bool) → h ≡ true → IfSome (elim t [
    | false ↦ elim u [ true ↦ over_link ask w c x (λ r. r) | false ↦ Some (over_parent w c (rate_in w c)) ]
    | true ↦ elim h [
      | true ↦ Some (over_parent w c (rate_in w c))
      | false ↦ by_kind ask w (kind_of w.defs c) c (clamped view c x)
    ]
  ]) (HasRate w c)
  both false can true h e =
      link_rate w c (λ p. ask p x) (link_in w.clocks c) (λ p r at said. answers p x r (up c p g at) said ∙ sym (rate_of_link words w c p valid ends links can at))
  both false can false h e = refl
  both true can u true e = refl
  both true can u false e = absurd cc

rate_some : (w : Wiring) (c r : ℕ) (o : Option Rounded) → IfSome o (HasRate w c) → option_map (λ y. y.rate) o ≡ Some r → r ≡ rate_in w c
rate_some w c r None own e = absurd cc
rate_some w c r (Some y) own e = let same : y.rate ≡ r = cc in sym same ∙ own

pub guarded_rate : (words levels : ℕ) (w : Wiring) (view : View) → IsValid words w.defs → LinesEnd w.defs → LinksArePossible w.defs w.clocks → GuardsLinks w view
    → AnswersRates (rate_for levels w view) w view
guarded_rate words zero w view valid ends links up p x r g e = absurd cc
guarded_rate words (suc levels) w view valid ends links up p x r g e =
    rate_some w p r (round_by (rate_for levels w view) w view p x)
    (guarded_round words (rate_for levels w view) w view p x valid ends links up (guarded_rate words levels w view valid ends links up) g) e

-- ---- chains

rounds_spare : (words : ℕ) (w : Wiring) (view : View) (c x : ℕ) → IsValid words w.defs → LinesEnd w.defs → LinksArePossible w.defs w.clocks → GuardsLinks w view
    → IfSome (round w view c x) (Spares w view)
unfolding round
rounds_spare words w view c x valid ends links up = round_spares (rate_for depth w view) w view c x (guarded_rate words depth w view valid ends links up)

-- a guarded clock isn't asked for another rate than it has
not_asked : (w : Wiring) (view : View) (p : ℕ) (r : Rounded) (t : Bool) → view.guarded p ≡ t → Spares w view r → r.parent ≡ Some p → is_at r.parent_rate (Some (rate_in w p)) ≡ false → t ≡ false
not_asked w view p r false g spares at asks = refl
not_asked w view p r true g spares at asks = let same = spares p at g in grind (arith, nat_tests)

-- so no clock of a plan is guarded, where the one that it begins with isn't
pub chain_unguarded : (words : ℕ) (w : Wiring) (view : View) (c x : ℕ) (ks : List ChainStep) → IsValid words w.defs → LinesEnd w.defs → LinksArePossible w.defs w.clocks → GuardsLinks w view
    → view.guarded c ≡ false → chain w view c x ≡ Some ks → AllByRecursion (λ k. view.guarded k.clock ≡ false) ks
chain_unguarded words w view c x ks valid ends links up own e =
    chain_all (λ d r. Spares w view r) (λ d. view.guarded d ≡ false) (λ k. view.guarded k.clock ≡ false) w view c x ks
    (record {
      rounds = λ d y. rounds_spare words w view d y valid ends links up;
      here = λ d r q spares. q;
      up = λ d p r q spares at asks. not_asked w view p r (view.guarded p) refl spares at asks;
    }) own e
