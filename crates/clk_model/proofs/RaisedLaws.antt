-- Laws on raised PLLs: through each step one that was raised is unpowered, prepared, still to be held or to fall, or lowered next.
use Rattle.std.proofs.Common.{◌≡◌, ℕ, ◌+◌, ◌&&◌, Bool, true, false, not, List, [], ◌∷◌, ◌++◌, Option, Some, None, refl, sym, ap, subst, ◌∙◌, ◌⊎◌, inl, inr, arith, length, nat_eq}
use Rattle.std.proofs.lemmas.Bool.{and_from}
use Rattle.std.proofs.lemmas.Bool.Decides.{nat_tests}
use Rattle.std.specs.Prelude.{nat_le, reverse, slice_get, if◌then◌else◌}
use Rattle.std.specs.Option.{option_map_or}
use Rattle.clk_base.specs.declared.call.Micro.{Micro}
use Rattle.clk_base.specs.declared.call.Micro.TheVariants as micro
use Rattle.clk_base.specs.declared.clock.ClockId.{ClockId}
use Rattle.clk_base.specs.Description.{Description, kind_of}
use Rattle.clk_base.specs.Fields.{PowerBit, power_of}
use Rattle.clk_base.specs.Valid.{IsValid}
use Rattle.reg_bank.specs.Registers.{Registers}
use Rattle.clk_model.specs.Lists.{is_in, without_one}
use Rattle.clk_model.specs.Kinds.{is_pll, is_powered, with_power}
use Rattle.clk_model.specs.State.{State, Change}
use Rattle.clk_model.specs.Tree.{path}
use Rattle.clk_model.specs.Holders.{prepared}
use Rattle.clk_model.specs.Round.{wiring}
use Rattle.clk_model.specs.Chain.{clock_id}
use Rattle.clk_model.specs.Script.{unprepared_plls, runs}
use Rattle.clk_model.specs.Begin.{register}
use Rattle.clk_model.specs.Step.{todo, set_in_chain, on, powered, to_raise, raise_one, raise, fall, to_lower, lower_one, lower, stepped}
use Rattle.clk_model.specs.Wired.{IsWired}
use Rattle.clk_model.proofs.Members.{is_in_head, is_in_tail, is_in_cases, same_from_test}
use Rattle.clk_model.proofs.OnceLaws.{filter_keeps}
use Rattle.clk_model.proofs.Cases.{by_option}
use Rattle.clk_model.proofs.WholePathLaws.{same_or_not}
use Rattle.clk_model.proofs.PowerLaws.{running_before, stopped}
use Rattle.clk_model.proofs.KeepLaws.{power_leaves_power, mux_written}
use Rattle.clk_model.proofs.FieldLaws.{written_power, set_power, closed_power}
use Rattle.clk_model.proofs.Scenes.{scene, prepared_in, after, is_plain, Serves, LowersNext, Stays, uncovers, OrCovered, IsCovered}
use Rattle.clk_model.proofs.SceneStepLaws.{Lands, fits_of, step_lands}
use Rattle.clk_model.proofs.ArriveLaws.{prepared_told, power_is_pll}

-- ---- what is accounted for

-- the lower that comes next lowers the path of a clock
pub record IsLowering (s : State) (k : Change) (y : ℕ) : Type 0 where
  pub clock : ClockId
  pub rest : List Micro
  pub next : todo k ≡ micro.Lower clock ∷ rest
  pub on_path : is_in y (path s.clocks clock.0) ≡ true

-- where a PLL runs, it is prepared, on the raised list, or lowered next
pub data Accounted (s : State) (k : Change) (y : ℕ) : Type 0 where
  stopped_ : runs s.defs s.regs y ≡ false → Accounted s k y
  kept : prepared s y ≡ true → Accounted s k y
  raised_ : is_in y k.raised ≡ true → Accounted s k y
  lowering : IsLowering s k y → Accounted s k y

-- the same of the change that a state has
abbrev pub AccountedIn : State → Option Change → ℕ → Type 0
AccountedIn s None y = ⊥
AccountedIn s (Some k) y = Accounted s k y

-- a PLL runs or doesn't
runs_or : (s : State) (y : ℕ) (A : Type 0) → (runs s.defs s.regs y ≡ true → A) → (runs s.defs s.regs y ≡ false → A) → A
runs_or s y A on_ off = by_test (runs s.defs s.regs y) refl where
  by_test : (t : Bool) → runs s.defs s.regs y ≡ t → A
  by_test true e = on_ e
  by_test false e = off e

not_both : (b : Bool) → b ≡ true → b ≡ false → ⊥
not_both b e f = let no : true ≡ false = sym e ∙ f in cc

-- one that runs has a power bit, so it is a PLL
running_pll : (s : State) (y : ℕ) → runs s.defs s.regs y ≡ true → is_pll (kind_of s.defs y) ≡ true
running_pll s y e = one (power_of (kind_of s.defs y)) refl e where
  one : (o : Option PowerBit) → power_of (kind_of s.defs y) ≡ o → option_map_or (is_powered s.regs) o false ≡ true → is_pll (kind_of s.defs y) ≡ true
  one None at f = absurd cc
  one (Some power) at f = power_is_pll (kind_of s.defs y) power at

-- a PLL runs as before where its power bit reads the same
runs_still : (defs : Description) (regs regs' : Registers) (y : ℕ) → ((power : PowerBit) → power_of (kind_of defs y) ≡ Some power → is_powered regs' power ≡ is_powered regs power)
    → runs defs regs' y ≡ runs defs regs y
runs_still defs regs regs' y same = one (power_of (kind_of defs y)) refl where
  one : (o : Option PowerBit) → power_of (kind_of defs y) ≡ o → option_map_or (is_powered regs') o false ≡ option_map_or (is_powered regs) o false
  one None at = refl
  one (Some power) at = same power at

-- ---- PLLs that are lowered

-- one that runs unprepared on the path is among those that are to be lowered
to_lower_in : (s : State) (x y : ℕ) → runs s.defs s.regs y ≡ true → prepared s y ≡ false → is_in y (path s.clocks x) ≡ true → is_in y (to_lower s x) ≡ true
to_lower_in s x y runs_ idle m =
    filter_keeps (runs s.defs s.regs) y (unprepared_plls s (path s.clocks x)) runs_
    (filter_keeps (λ c. is_pll (kind_of s.defs c) && not (prepared s c)) y (path s.clocks x) (and_from (is_pll (kind_of s.defs y)) (not (prepared s y)) (running_pll s y runs_) (ap not idle)) m)

-- another than the first of a list is in it only where the list has two
two_of : (xs : List ℕ) (y z : ℕ) → slice_get xs 0 ≡ Some z → is_in y xs ≡ true → (y ≡ z → ⊥) → nat_le 2 (length xs) ≡ true
two_of [] y z at m other = absurd cc
two_of (x ∷ []) y z at m other =
    let first : x ≡ z = cc in
    elim (is_in_cases y x [] m) [
      | inl same ↦ absurd (other (sym same ∙ first))
      | inr none ↦ absurd cc
    ]
two_of (x ∷ w ∷ xs) y z at m other = grind (arith, nat_tests)

pub lower_accounts : (s : State) (k : Change) (x y : ℕ) → IsValid (length s.regs) s.defs → (prepared s y ≡ true) ⊎ (is_in y (path s.clocks x) ≡ true) ⊎ (runs s.defs s.regs y ≡ false)
    → AccountedIn (lower s k x) (lower s k x).change y
lower_accounts s k x y valid was = one (slice_get (to_lower s x) 0) refl was where
  none_in : slice_get (to_lower s x) 0 ≡ None → is_in y (to_lower s x) ≡ true → ⊥
  none_in at m = empty (to_lower s x) at m where
    empty : (xs : List ℕ) → slice_get xs 0 ≡ None → is_in y xs ≡ true → ⊥
    empty [] e n = cc
    empty (z ∷ zs) e n = cc

  again : (z : ℕ) → slice_get (to_lower s x) 0 ≡ Some z → is_in y (path s.clocks x) ≡ true → runs s.defs (powered s z false).regs y ≡ true → (b : Bool) → prepared s y ≡ b
      → Accounted (lower_one s k x z) (record k {
        again = if nat_le 2 (length (to_lower s x)) then k.again + 1 else 0;
        front = (if nat_le 2 (length (to_lower s x)) then micro.Lower (clock_id x) ∷ [] else []) ++ k.front;
      }) y
  again z at m runs_ true prep = kept prep
  again z at m runs_ false idle =
      let before = running_before s z y valid runs_ in
      let other : y ≡ z → ⊥ = (λ same. not_both (runs s.defs (powered s z false).regs y) runs_ (ap (runs s.defs (powered s z false).regs) same ∙ stopped s z valid)) in
      let more = two_of (to_lower s x) y z at (to_lower_in s x y before idle m) other in
      lowering (record {
        clock = clock_id x;
        rest = k.front ++ k.left;
        next = ap (λ (t : Bool). ((if t then micro.Lower (clock_id x) ∷ [] else []) ++ k.front) ++ k.left) more;
        on_path = m;
      })

  one : (o : Option ℕ) → slice_get (to_lower s x) 0 ≡ o → (prepared s y ≡ true) ⊎ (is_in y (path s.clocks x) ≡ true) ⊎ (runs s.defs s.regs y ≡ false)
      → AccountedIn (option_map_or (lower_one s k x) o (on s (record k { again = 0 }))) (option_map_or (lower_one s k x) o (on s (record k { again = 0 }))).change y
  one None at (inl prep) = kept prep
  one None at (inr (inl m)) = runs_or s y (Accounted (on s (record k { again = 0 })) (record k { again = 0 }) y) (λ runs_. by_prepared (prepared s y) refl runs_) (λ e. stopped_ e) where
    by_prepared : (b : Bool) → prepared s y ≡ b → runs s.defs s.regs y ≡ true → Accounted (on s (record k { again = 0 })) (record k { again = 0 }) y
    by_prepared true prep runs_ = kept prep
    by_prepared false idle runs_ = absurd (none_in at (to_lower_in s x y runs_ idle m))
  one None at (inr (inr e)) = stopped_ e
  one (Some z) at (inl prep) = kept prep
  one (Some z) at (inr (inl m)) = runs_or (lower_one s k x z) y (Accounted (lower_one s k x z) _ y) (λ runs_. again z at m runs_ (prepared s y) refl) (λ e. stopped_ e)
  one (Some z) at (inr (inr e)) =
      runs_or (lower_one s k x z) y (Accounted (lower_one s k x z) _ y) (λ runs_. absurd (not_both (runs s.defs s.regs y) (running_before s z y valid runs_) e)) (λ f. stopped_ f)

-- ---- PLLs that are raised and fall

-- where the power bit of another is set
running_raised : (s : State) (z y : ℕ) → IsValid (length s.regs) s.defs → (y ≡ z → ⊥) → runs s.defs (powered s z true).regs y ≡ runs s.defs s.regs y
running_raised s z y valid other = one (power_of (kind_of s.defs z)) refl where
  one : (o : Option PowerBit) → power_of (kind_of s.defs z) ≡ o → runs s.defs (option_map_or (λ power. with_power s.regs power true) o s.regs) y ≡ runs s.defs s.regs y
  one None at = refl
  one (Some power) at =
      runs_still s.defs s.regs (with_power s.regs power true) y (λ p at'. power_leaves_power (length s.regs) s.defs s.regs z power true y p valid at at' (λ same. other (sym same)))

pub raise_accounts : (s : State) (k : Change) (x y : ℕ) → IsValid (length s.regs) s.defs → (prepared s y ≡ true) ⊎ (is_in y k.raised ≡ true) ⊎ (runs s.defs s.regs y ≡ false)
    → AccountedIn (raise s k x) (raise s k x).change y
raise_accounts s k x y valid was =
    by_option (λ u. AccountedIn u u.change y) (slice_get (reverse (to_raise s k x)) 0) (raise_one s k x) (on s (record k { again = 0 })) (same was) (λ z. more z was (same_or_not z y)) where
      same : (prepared s y ≡ true) ⊎ (is_in y k.raised ≡ true) ⊎ (runs s.defs s.regs y ≡ false) → Accounted (on s (record k { again = 0 })) (record k { again = 0 }) y
      same (inl prep) = kept prep
      same (inr (inl m)) = raised_ m
      same (inr (inr e)) = stopped_ e

      more : (z : ℕ) → (prepared s y ≡ true) ⊎ (is_in y k.raised ≡ true) ⊎ (runs s.defs s.regs y ≡ false) → (z ≡ y) ⊎ (z ≡ y → ⊥) → AccountedIn (raise_one s k x z) (raise_one s k x z).change y
      more z was' (inl own) = raised_ (ap (λ (v : ℕ). is_in y (v ∷ k.raised)) own ∙ is_in_head y k.raised)
      more z (inl prep) (inr other) = kept prep
      more z (inr (inl m)) (inr other) = raised_ (is_in_tail y z k.raised m)
      more z (inr (inr e)) (inr other) = stopped_ (running_raised s z y valid (λ own. other (sym own)) ∙ e)

-- a list without one number has each other
without_other : (x y : ℕ) (xs : List ℕ) → (y ≡ x → ⊥) → is_in y xs ≡ true → is_in y (without_one x xs) ≡ true
without_other x y [] other m = m
without_other x y (z ∷ zs) other m = by_test (nat_eq z x) refl (is_in_cases y z zs m) (λ n. without_other x y zs other n) where
  by_test : (t : Bool) → nat_eq z x ≡ t → (z ≡ y) ⊎ (is_in y zs ≡ true) → (is_in y zs ≡ true → is_in y (without_one x zs) ≡ true) → is_in y (if t then zs else z ∷ without_one x zs) ≡ true
  by_test true e (inl own) rest = absurd (other (sym own ∙ same_from_test z x e))
  by_test true e (inr later) rest = later
  by_test false e (inl own) rest = ap (λ (v : ℕ). is_in y (v ∷ without_one x zs)) own ∙ is_in_head y (without_one x zs)
  by_test false e (inr later) rest = is_in_tail y z (without_one x zs) (rest later)

pub fall_accounts : (s : State) (k : Change) (z y : ℕ) → IsValid (length s.regs) s.defs → (prepared s y ≡ true) ⊎ (is_in y k.raised ≡ true) ⊎ (runs s.defs s.regs y ≡ false)
    → AccountedIn (fall s k z) (fall s k z).change y
fall_accounts s k z y valid (inl prep) = kept prep
fall_accounts s k z y valid (inr (inl m)) = elim (same_or_not y z) [
  | inl own ↦ stopped_ (ap (runs s.defs (powered s z false).regs) own ∙ stopped s z valid)
  | inr other ↦ raised_ (without_other z y k.raised other m)
]
fall_accounts s k z y valid (inr (inr e)) =
    runs_or (fall s k z) y (Accounted (fall s k z) _ y) (λ runs_. absurd (not_both (runs s.defs s.regs y) (running_before s z y valid runs_) e)) (λ f. stopped_ f)

-- ---- plain steps

-- a plain step but a lower leaves a PLL running only where it ran
pub plain_running : (s : State) (k : Change) (answer : Option Bool) (m : Micro) (cover : List ℕ) (late : Option ℕ) (y : ℕ) → IsValid (length s.regs) s.defs → is_plain m ≡ true → Serves s.defs cover (scene late s) m
    → ((x : ClockId) → m ≡ micro.Lower x → ⊥) → runs s.defs s.regs y ≡ false → runs (stepped s k answer m).0.defs (stepped s k answer m).0.regs y ≡ false
unfolding stepped register
plain_running s k answer (micro.WriteMux c place) cover late y valid plain serves other off =
    runs_still s.defs s.regs (mux_written s c.0 place) y (λ power at. written_power s (length s.regs) c.0 place y power valid (fits_of s.defs cover (scene late s) c place serves) at) ∙ off
plain_running s k answer (micro.Visit c) cover late y valid plain serves other off = runs_still s.defs s.regs (set_in_chain s k c.0) y (λ power at. set_power s k (length s.regs) c.0 y power valid at) ∙ off
plain_running s k answer (micro.Close c) cover late y valid plain serves other off = runs_still s.defs s.regs _ y (λ power at. closed_power s (length s.regs) c.0 y power valid at) ∙ off
plain_running s k answer (micro.Unpower c) cover late y valid plain serves other off = by_test (runs s.defs (powered s c.0 false).regs y) refl where
  by_test : (t : Bool) → runs s.defs (powered s c.0 false).regs y ≡ t → t ≡ false
  by_test false e = refl
  by_test true e = absurd (not_both (runs s.defs s.regs y) (running_before s c.0 y valid e) off)
plain_running s k answer (micro.Lower x) cover late y valid plain serves other off = absurd (other x refl)
plain_running s k answer (micro.Raise x) cover late y valid plain serves other off = absurd cc
plain_running s k answer (micro.Poll x) cover late y valid plain serves other off = absurd cc
plain_running s k answer (micro.Fall x) cover late y valid plain serves other off = absurd cc
plain_running s k answer micro.End cover late y valid plain serves other off = absurd cc
plain_running s k answer m cover late y valid plain serves other off = off

-- the lower that comes next behind a drop
drop_lowers : (s : State) (k : Change) (answer : Option Bool) (m : Micro) (late : Option ℕ) (y : ℕ) → k.front ≡ [] → LowersNext (scene late s) m k.left y
    → AccountedIn (stepped s k answer m).0 (stepped s k answer m).0.change y
unfolding stepped
drop_lowers s k answer (micro.DropPrepare o) late y empty low = one k.left refl low where
  one : (ms : List Micro) → k.left ≡ ms → LowersNext (scene late s) (micro.DropPrepare o) ms y → AccountedIn (stepped s k answer (micro.DropPrepare o)).0 (Some k) y
  one (micro.Lower x ∷ ms) is on_path = lowering (record { clock = x; rest = ms; next = ap (λ (ns : List Micro). ns ++ k.left) empty ∙ is; on_path = on_path })
  one [] is on_path = absurd on_path
  one (n ∷ ms) is on_path = absurd on_path
drop_lowers s k answer m late y empty low = absurd low

-- a plain step but a lower, which comes from the script
pub plain_accounts : (s : State) (k : Change) (answer : Option Bool) (m : Micro) (cover : List ℕ) (late : Option ℕ) (y : ℕ) → IsWired (length s.regs) (wiring s) → is_plain m ≡ true → k.front ≡ [] → uncovers m cover ≡ []
    → Serves s.defs cover (scene late s) m → Stays s.defs cover (scene late s) m k.left → ((x : ClockId) → m ≡ micro.Lower x → ⊥)
    → (prepared s y ≡ true) ⊎ IsCovered cover (scene late s) y ⊎ (runs s.defs s.regs y ≡ false) → (j : Change) → (stepped s k answer m).0.change ≡ Some j
    → Accounted (stepped s k answer m).0 j y
plain_accounts s k answer m cover late y wired plain empty none serves stays other was j at = by_case was where
  lands : Lands s (after s.defs (scene late s) m).late (stepped s k answer m).0 (after s.defs (scene late s) m)
  lands = step_lands s k answer m cover late wired plain serves

  by_stay : (prepared_in s.defs (after s.defs (scene late s) m) y ≡ true) ⊎ LowersNext (scene late s) m k.left y → Accounted (stepped s k answer m).0 j y
  by_stay (inl prep) =
      kept (prepared_told (after s.defs (scene late s) m).late (after s.defs (scene late s) m).late s (stepped s k answer m).0 (after s.defs (scene late s) m) y lands.defs lands.scene_is ∙ prep)
  by_stay (inr low) = subst (λ (o : Option Change). AccountedIn (stepped s k answer m).0 o y) at (drop_lowers s k answer m late y empty low)

  alone : OrCovered (uncovers m cover) (after s.defs (scene late s) m) y ((prepared_in s.defs (after s.defs (scene late s) m) y ≡ true) ⊎ LowersNext (scene late s) m k.left y)
      → (prepared_in s.defs (after s.defs (scene late s) m) y ≡ true) ⊎ LowersNext (scene late s) m k.left y
  alone p = subst (λ (ys : List ℕ). OrCovered ys (after s.defs (scene late s) m) y ((prepared_in s.defs (after s.defs (scene late s) m) y ≡ true) ⊎ LowersNext (scene late s) m k.left y)) none p

  by_case : (prepared s y ≡ true) ⊎ IsCovered cover (scene late s) y ⊎ (runs s.defs s.regs y ≡ false) → Accounted (stepped s k answer m).0 j y
  by_case (inl prep) = by_stay (alone (stays y (inl prep)))
  by_case (inr (inl covered_)) = by_stay (alone (stays y (inr covered_)))
  by_case (inr (inr off)) = stopped_ (plain_running s k answer m cover late y wired.valid plain serves other off)
