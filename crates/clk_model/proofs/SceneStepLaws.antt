-- Laws on steps and scenes: what each step of a script leaves of the scene, the gates and the power bits.
use Rattle.std.proofs.Common.{◌≡◌, ℕ, ◌<◌, ◌^◌, Bool, true, false, not, ◌&&◌, cond, List, [], ◌∷◌, Option, Some, None, refl, sym, ap, subst, ◌∙◌, ◌⊎◌, inl, inr, nat_lt, arith, length}
use Rattle.std.proofs.Math.Path.{fun_ext}
use Rattle.std.proofs.lemmas.Bool.{cases_lt}
use Rattle.std.proofs.lemmas.Bool.Decides.{nat_tests}
use Rattle.std.proofs.lemmas.List.{set_past, get_or_past}
use Rattle.std.specs.Prelude.{slice_get, slice_set}
use Rattle.std.specs.Option.{option_map_or}
use Rattle.clk_base.specs.declared.call.Micro.{Micro}
use Rattle.clk_base.specs.declared.call.Micro.TheVariants as micro
use Rattle.clk_base.specs.declared.clock.ClockDef.{ClockDef}
use Rattle.clk_base.specs.declared.clock.ClockId.{ClockId}
use Rattle.clk_base.specs.Description.{Description, nobody, kind_of, parents_of}
use Rattle.clk_base.specs.Fields.{Field}
use Rattle.clk_base.specs.Levels.{depth}
use Rattle.clk_base.specs.Valid.{IsValid}
use Rattle.reg_bank.specs.Registers.{Registers}
use Rattle.clk_model.specs.declared.row.ClockRow.{ClockRow}
use Rattle.clk_model.specs.Lists.{is_in}
use Rattle.clk_model.specs.Kinds.{is_pll, mux_field}
use Rattle.clk_model.specs.State.{State, Change, row_of, registered, link_in}
use Rattle.clk_model.specs.Tree.{path, selected, link_given, children}
use Rattle.clk_model.specs.Holders.{prepared}
use Rattle.clk_model.specs.Rate.{rate}
use Rattle.clk_model.specs.Round.{wiring}
use Rattle.clk_model.specs.Walk.{below_within}
use Rattle.clk_model.specs.Chain.{clock_id, linked}
use Rattle.clk_model.specs.Script.{unprepared_plls, runs}
use Rattle.clk_model.specs.Begin.{registered_rows, register}
use Rattle.clk_model.specs.Step.{on, powered, to_lower, lower_one, lower, set_in_chain, relink, settle_all, stepped}
use Rattle.clk_model.specs.Wired.{IsWired}
use Rattle.clk_model.proofs.Members.{both_right}
use Rattle.clk_model.proofs.OnceLaws.{is_in-filter}
use Rattle.clk_model.proofs.StateLaws.{row_of-set_same, row_of-set_other}
use Rattle.clk_model.proofs.WholePathLaws.{same_or_not, linked_same, linked_other, given_link, given_others}
use Rattle.clk_model.proofs.OnceLaws.{filter_passes}
use Rattle.clk_model.proofs.WalkLaws.{turned_off}
use Rattle.clk_model.proofs.HoldSteps.{settled_links}
use Rattle.clk_model.proofs.PllLaws.{at_place}
use Rattle.clk_model.proofs.SupplyLaws.{selected_same}
use Rattle.clk_model.proofs.PowerLaws.{SameMuxes, powered_muxes}
use Rattle.clk_model.proofs.AboveLaws.{put_at, put_same, put_other}
use Rattle.clk_model.proofs.Scenes.{Scene, scene, prepared_in, given_in, after, is_plain, Serves}
use Rattle.clk_model.proofs.KeepLaws.{Keeps, keeps_same, keeps_lowered, keeps_closed, closed_muxes, keeps_set, set_muxes, mux_written, keeps_written, selected_written}

-- ---- rows

-- a row that is registered as before leaves who is registered
pub registered_set : (clocks : List ClockRow) (c : ℕ) (row : ClockRow) (d : ℕ) → row.registered ≡ registered clocks c → registered (slice_set clocks c row) d ≡ registered clocks d
registered_set clocks c row d same = by_clock (same_or_not c d) where
  by_clock : (c ≡ d) ⊎ (c ≡ d → ⊥) → registered (slice_set clocks c row) d ≡ registered clocks d
  by_clock (inr other) = ap (λ (r : ClockRow). r.registered) (row_of-set_other clocks c row d other)
  by_clock (inl here) =
      subst (λ (x : ℕ). registered (slice_set clocks c row) x ≡ registered clocks x) here
      (elim (cases_lt c (length clocks)) [
        | inl within ↦ ap (λ (r : ClockRow). r.registered) (row_of-set_same clocks c row within) ∙ same
        | inr past ↦ ap (λ (rs : List ClockRow). registered rs c) (set_past clocks c row past)
      ])

pub settled_there : (s : State) (cs : List ℕ) (d : ℕ) → registered (settle_all s cs) d ≡ registered s.clocks d
settled_there s [] d = refl
settled_there s (c ∷ cs) d =
    registered_set (settle_all s cs) c (record (row_of (settle_all s cs) c) { last_request = rate s.defs s.regs s.clocks c }) d refl ∙ settled_there s cs d

-- a clock with a possible parent is a clock of the description
pub parent_lt : (defs : Description) (c p : ℕ) → is_in p (parents_of defs c) ≡ true → c < length defs
parent_lt defs c p m =
    elim (cases_lt c (length defs)) [
      | inl inside ↦ inside
      | inr outside ↦
          let none : is_in p (parents_of defs c) ≡ false = ap (λ (d : ClockDef). is_in p d.parents) (get_or_past defs c nobody outside) in
          absurd cc
    ]

-- ---- scenes that agree

-- a scene with other links and other registered clocks that agree is the same
pub regained : (b : Scene) (up : ℕ → Option ℕ) (there : ℕ → Bool) → ((d : ℕ) → up d ≡ b.up d) → ((d : ℕ) → there d ≡ b.there d) → record b { up = up; there = there } ≡ b
regained b up there ups theres =
    ap (λ (u : ℕ → Option ℕ). let x : Scene = record b { up = u; there = there } in x) (fun_ext ups)
    ∙ ap (λ (t : ℕ → Bool). let x : Scene = record b { there = t } in x) (fun_ext theres)

pub reselected : (b : Scene) (sel : ℕ → Option ℕ) → ((d : ℕ) → sel d ≡ b.sel d) → record b { sel = sel } ≡ b
reselected b sel sels = ap (λ (f : ℕ → Option ℕ). let x : Scene = record b { sel = f } in x) (fun_ext sels)

-- ---- where a step lands

-- a step leaves the description and the handles, this scene, and the gates and power bits that are needed
pub record Lands (s : State) (late : Option ℕ) (y : State) (b : Scene) : Type 0 where
  pub defs : y.defs ≡ s.defs
  pub handles : y.handles ≡ s.handles
  pub scene_is : scene late y ≡ b
  pub keeps : Keeps s y.regs

-- registers in which the muxes read the same
pub lands_on : (s : State) (late : Option ℕ) (regs : Registers) (k : Change) → SameMuxes s.defs s.regs regs → Keeps s regs → Lands s late (on (record s { regs = regs }) k) (scene late s)
lands_on s late regs k muxes keeps = record {
  defs = refl;
  handles = refl;
  scene_is = reselected (scene late s) (selected s.defs regs) (λ d. selected_same s.defs s.regs regs d (muxes d));
  keeps = keeps;
}

lands_linked : (s : State) (late : Option ℕ) (k : Change) (c p : ℕ) → length s.clocks ≡ length s.defs → is_in p (parents_of s.defs c) ≡ true
    → Lands s (after s.defs (scene late s) (micro.Relink (clock_id c) (clock_id p))).late (relink s k c p)
    (after s.defs (scene late s) (micro.Relink (clock_id c) (clock_id p)))
lands_linked s late k c p rows m = record {
  defs = refl;
  handles = refl;
  scene_is = regained (after s.defs (scene late s) (micro.Relink (clock_id c) (clock_id p))) (link_in (linked s.clocks c p)) (registered (linked s.clocks c p)) up
      (λ d. registered_set s.clocks c (record (row_of s.clocks c) { link = Some (clock_id p) }) d refl);
  keeps = keeps_same s;
} where
  within : c < length s.clocks
  within = let lt = parent_lt s.defs c p m in omega arith

  up : (d : ℕ) → link_in (linked s.clocks c p) d ≡ put_at c (Some p) (link_in s.clocks) d
  up d = by_clock (same_or_not c d) where
    by_clock : (c ≡ d) ⊎ (c ≡ d → ⊥) → link_in (linked s.clocks c p) d ≡ put_at c (Some p) (link_in s.clocks) d
    by_clock (inl same) = ap (link_in (linked s.clocks c p)) (sym same) ∙ linked_same s.clocks c p within ∙ sym (put_same c d (Some p) (link_in s.clocks) same)
    by_clock (inr other) = linked_other s.clocks c p d other ∙ sym (put_other c d (Some p) (link_in s.clocks) other)

-- what a registration leaves of the links and of who is registered
pub register_up : (s : State) (c d : ℕ) (late : Option ℕ) → length s.clocks ≡ length s.defs
    → link_in (register s c).clocks d ≡ cond {A = ℕ → Option ℕ} (nat_lt c (length s.defs)) (put_at c (given_in (scene late s) c) (link_in s.clocks)) (link_in s.clocks) d
unfolding register link_given
register_up s c d late rows = by_size (nat_lt c (length s.defs)) refl (same_or_not c d) where
  by_size : (t : Bool) → nat_lt c (length s.defs) ≡ t → (c ≡ d) ⊎ (c ≡ d → ⊥)
      → link_in (registered_rows s.defs s.regs s.clocks c) d ≡ cond {A = ℕ → Option ℕ} t (put_at c (given_in (scene late s) c) (link_in s.clocks)) (link_in s.clocks) d
  by_size true lt (inl same) =
      ap (link_in (registered_rows s.defs s.regs s.clocks c)) (sym same) ∙ given_link s c (grind (arith, nat_tests)) ∙ sym (put_same c d (given_in (scene late s) c) (link_in s.clocks) same)
  by_size true lt (inr other) = given_others s c d other ∙ sym (put_other c d (given_in (scene late s) c) (link_in s.clocks) other)
  by_size false beyond by = ap (λ (rs : List ClockRow). link_in rs d) (set_past s.clocks c _ (grind (arith, nat_tests)))

pub register_there : (s : State) (c d : ℕ) → length s.clocks ≡ length s.defs
    → registered (register s c).clocks d ≡ cond {A = ℕ → Bool} (nat_lt c (length s.defs)) (put_at c true (registered s.clocks)) (registered s.clocks) d
unfolding register
register_there s c d rows = by_size (nat_lt c (length s.defs)) refl (same_or_not c d) where
  by_size : (t : Bool) → nat_lt c (length s.defs) ≡ t → (c ≡ d) ⊎ (c ≡ d → ⊥)
      → registered (registered_rows s.defs s.regs s.clocks c) d ≡ cond {A = ℕ → Bool} t (put_at c true (registered s.clocks)) (registered s.clocks) d
  by_size true lt (inl same) =
      ap (registered (registered_rows s.defs s.regs s.clocks c)) (sym same)
      ∙ ap (λ (r : ClockRow). r.registered) (row_of-set_same s.clocks c _ (grind (arith, nat_tests))) ∙ sym (put_same c d true (registered s.clocks) same)
  by_size true lt (inr other) = ap (λ (r : ClockRow). r.registered) (row_of-set_other s.clocks c _ d other) ∙ sym (put_other c d true (registered s.clocks) other)
  by_size false beyond by = ap (λ (rs : List ClockRow). registered rs d) (set_past s.clocks c _ (grind (arith, nat_tests)))

-- so the scene behind a registration is that behind its step
pub register_scene : (s : State) (c : ClockId) (late : Option ℕ) → length s.clocks ≡ length s.defs → scene late (register s c.0) ≡ after s.defs (scene late s) (micro.Register c)
unfolding register
register_scene s c late rows =
    regained (after s.defs (scene late s) (micro.Register c)) (link_in (registered_rows s.defs s.regs s.clocks c.0)) (registered (registered_rows s.defs s.regs s.clocks c.0))
    (λ d. register_up s c.0 d late rows) (λ d. register_there s c.0 d rows)

lands_registered : (s : State) (c : ClockId) (late : Option ℕ) (k : Change) → length s.clocks ≡ length s.defs
    → Lands s late (on (register s c.0) k) (after s.defs (scene late s) (micro.Register c))
unfolding register
lands_registered s c late k rows = record { defs = refl; handles = refl; scene_is = register_scene s c late rows; keeps = keeps_same s }

lands_settled : (s : State) (late : Option ℕ) (k : Change) (cs : List ℕ) → Lands s late (on (record s { clocks = settle_all s cs }) k) (scene late s)
lands_settled s late k cs = record {
  defs = refl;
  handles = refl;
  scene_is = regained (scene late s) (link_in (settle_all s cs)) (registered (settle_all s cs)) (settled_links s cs) (settled_there s cs);
  keeps = keeps_same s;
}

pub lands_same : (s : State) (late : Option ℕ) (k : Change) → Lands s late (on s k) (scene late s)
lands_same s late k = record { defs = refl; handles = refl; scene_is = refl; keeps = keeps_same s }

-- ---- PLLs

-- an unprepared PLL of a path isn't prepared
pub unprepared_idle : (s : State) (cs : List ℕ) (y : ℕ) → is_in y (unprepared_plls s cs) ≡ true → prepared s y ≡ false
unprepared_idle s cs y m =
    turned_off (prepared s y) (both_right (is_pll (kind_of s.defs y)) (not (prepared s y)) (filter_passes (λ c. is_pll (kind_of s.defs c) && not (prepared s c)) y cs m))

pub lands_lowered : (s : State) (late : Option ℕ) (k : Change) (x : ℕ) → IsValid (length s.regs) s.defs → Lands s late (lower s k x) (scene late s)
lands_lowered s late k x valid = one (slice_get (to_lower s x) 0) refl where
  one : (o : Option ℕ) → slice_get (to_lower s x) 0 ≡ o → Lands s late (option_map_or (lower_one s k x) o (on s (record k { again = 0 }))) (scene late s)
  one None at = lands_same s late (record k { again = 0 })
  one (Some y) at =
      let idle : prepared s y ≡ false = unprepared_idle s (path s.clocks x) y (is_in-filter (runs s.defs s.regs) y (unprepared_plls s (path s.clocks x)) (at_place (to_lower s x) 0 y at)) in
      lands_on s late (powered s y false).regs _ (powered_muxes s (length s.regs) y false valid) (keeps_lowered s y valid idle)

-- ---- each step

possible_of : (defs : Description) (cover : List ℕ) (a : Scene) (c p : ClockId) → Serves defs cover a (micro.Relink c p) → is_in p.0 (parents_of defs c.0) ≡ true
possible_of defs [] a c p serves = serves.0
possible_of defs (x ∷ xs) a c p serves = absurd serves

pub fits_of : (defs : Description) (cover : List ℕ) (a : Scene) (c : ClockId) (place : ℕ) → Serves defs cover a (micro.WriteMux c place) → (f : Field) → mux_field (kind_of defs c.0) ≡ Some f → place < 2 ^ f.width
fits_of defs [] a c place serves = serves
fits_of defs (x ∷ xs) a c place serves = absurd serves

idle_of : (defs : Description) (cover : List ℕ) (a : Scene) (c : ClockId) → Serves defs cover a (micro.Unpower c) → prepared_in defs a c.0 ≡ false
idle_of defs [] a c serves = serves
idle_of defs (x ∷ xs) a c serves = absurd serves

-- where each step of a script lands
pub step_lands : (s : State) (k : Change) (answer : Option Bool) (m : Micro) (cover : List ℕ) (late : Option ℕ) → IsWired (length s.regs) (wiring s) → is_plain m ≡ true → Serves s.defs cover (scene late s) m
    → Lands s (after s.defs (scene late s) m).late (stepped s k answer m).0 (after s.defs (scene late s) m)
unfolding stepped
step_lands s k answer (micro.Notify kind c id old new) cover late wired plain serves = lands_same s late k
step_lands s k answer (micro.Raise x) cover late wired plain serves = absurd cc
step_lands s k answer (micro.Poll y) cover late wired plain serves = absurd cc
step_lands s k answer (micro.Fall y) cover late wired plain serves = absurd cc
step_lands s k answer (micro.HoldPrepare x) cover late wired plain serves = record { defs = refl; handles = refl; scene_is = refl; keeps = keeps_same s }
step_lands s k answer (micro.HoldEnable x) cover late wired plain serves = record { defs = refl; handles = refl; scene_is = refl; keeps = keeps_same s }
step_lands s k answer (micro.Relink c p) cover late wired plain serves = lands_linked s late k c.0 p.0 wired.rows (possible_of s.defs cover (scene late s) c p serves)
step_lands s k answer (micro.WriteMux c place) cover late wired plain serves = record {
  defs = refl;
  handles = refl;
  scene_is = reselected (after s.defs (scene late s) (micro.WriteMux c place)) (selected s.defs (mux_written s c.0 place))
      (selected_written s c.0 place wired.valid (fits_of s.defs cover (scene late s) c place serves));
  keeps = keeps_written s c.0 place wired.valid (fits_of s.defs cover (scene late s) c place serves);
}
step_lands s k answer (micro.DropEnable x) cover late wired plain serves = record { defs = refl; handles = refl; scene_is = refl; keeps = keeps_same s }
step_lands s k answer (micro.DropPrepare x) cover late wired plain serves = record { defs = refl; handles = refl; scene_is = refl; keeps = keeps_same s }
step_lands s k answer (micro.Lower x) cover late wired plain serves = lands_lowered s late k x.0 wired.valid
step_lands s k answer (micro.Visit c) cover late wired plain serves = lands_on s late (set_in_chain s k c.0) _ (set_muxes s k c.0 wired.valid) (keeps_set s k c.0 wired.valid)
step_lands s k answer (micro.Register c) cover late wired plain serves = lands_registered s c late _ wired.rows
step_lands s k answer (micro.Settle c) cover late wired plain serves = lands_settled s late k (below_within (children s.order s.clocks) depth c.0)
step_lands s k answer (micro.Close c) cover late wired plain serves = lands_on s late _ k (closed_muxes s (length s.regs) c.0 wired.valid) (keeps_closed s c.0 wired.valid)
step_lands s k answer (micro.Unpower c) cover late wired plain serves =
    lands_on s late (powered s c.0 false).regs k (powered_muxes s (length s.regs) c.0 false wired.valid) (keeps_lowered s c.0 wired.valid (idle_of s.defs cover (scene late s) c serves))
step_lands s k answer micro.End cover late wired plain serves = absurd cc
