-- What is read of a state that is like a reached one is what is read of that one.
use Rattle.std.proofs.Common.{◌≡◌, ℕ, ◌+◌, ◌≤◌, ◌&&◌, ◌⊎◌, inl, inr, Bool, not, true, false, List, Option, Some, None, refl, sym, ap, subst, ◌∙◌, length, arith}
use Rattle.std.proofs.Math.Path.{fun_ext}
use Rattle.std.specs.Prelude.{IfSome, filter, option_map}
use Rattle.std.specs.Option.{option_map_or}
use Rattle.clk_base.specs.declared.clock.ClockId.{ClockId}
use Rattle.clk_base.specs.Description.{Description, kind_of}
use Rattle.clk_base.specs.Fields.{PowerBit, power_of}
use Rattle.clk_base.specs.Valid.{IsValid}
use Rattle.reg_bank.specs.Registers.{Registers, is_set}
use Rattle.clk_model.specs.declared.row.HandleRow.{HandleRow}
use Rattle.clk_model.specs.Holders.{clocks_of, is_prepared, prepared}
use Rattle.clk_model.specs.Kinds.{is_pll, is_powered}
use Rattle.clk_model.specs.Lists.{is_in}
use Rattle.clk_model.specs.Prep.{without_enables, is_sweep, change_prep}
use Rattle.clk_model.specs.Script.{plls}
use Rattle.clk_model.specs.State.{State, Change, registered, handle_at, link_in}
use Rattle.clk_model.specs.Step.{to_raise}
use Rattle.clk_model.specs.Tree.{selected, path_to_be}
use Rattle.clk_model.specs.Laws.LinksKept.{WillBePossible, KeepsLinks, IsWiredOver}
use Rattle.clk_model.specs.Laws.Paced.{Front, tells, polls, polls_to_raise, raises, lowers, StillToRaise, StillToLower, IsPaced, left_of}
use Rattle.clk_model.specs.Laws.Twins.{IsTwin}
use Rattle.clk_model.specs.Laws.Weight.{weight_left}
use Rattle.clk_model.specs.Laws.RunsEnd.{HasRoom}
use Rattle.clk_model.proofs.AlikeLaws.{LooksAlike, fields_of_masks, rest_of, is_beside, looks_alike, runs_same, same_changes, same_change}
use Rattle.clk_model.proofs.ArriveLaws.{IsFit}
use Rattle.clk_model.proofs.BareHandleLaws.{bare, at_bare, values_same}
use Rattle.clk_model.proofs.PlannedSameLaws.{Rest, beside}
use Rattle.clk_model.proofs.PrepStepLaws.{prepared_same, selected_same, path_same, lower_same}
use Rattle.clk_model.proofs.PrepToldLaws.{handle_masked}
use Rattle.clk_model.proofs.Scenes.{Scene, scene, EnablesPrepared}
use Rattle.clk_model.proofs.Scenes as scenes
use Rattle.clk_machine.specs.Sound.{IsReached, IsLike, IsNarrow, IsSound}
use Rattle.clk_machine.proofs.Soundness.{wired_reached, links_reached, room_reached}

-- ---- handles without enables

none_enabled : (handles : List (Option HandleRow)) (n : ℕ) (h : HandleRow) → handles ≡ bare handles → handle_at handles n ≡ Some h → h.enables ≡ 0
none_enabled handles n h is at =
    let one : Some h ≡ Some (without_enables h) =
    sym at ∙ ap (λ (hs : List (Option HandleRow)). handle_at hs n) is ∙ sym (handle_masked handles n) ∙ ap (λ (o : Option HandleRow). option_map without_enables o) at in
    ap (λ (o : Option HandleRow). option_map_or (λ r. r.enables) o 0) one

bare_prepared : (handles : List (Option HandleRow)) → handles ≡ bare handles → EnablesPrepared handles
bare_prepared handles is n h at on = let none = none_enabled handles n h is at in absurd (omega arith)

clock_bare : (o : Option HandleRow) → option_map (λ (h : HandleRow). h.clock.0) (option_map without_enables o) ≡ option_map (λ (h : HandleRow). h.clock.0) o
clock_bare None = refl
clock_bare (Some h) = refl

clock_same : (old new : List (Option HandleRow)) (n : ℕ) → bare new ≡ bare old → option_map (λ (h : HandleRow). h.clock.0) (handle_at new n) ≡ option_map (λ (h : HandleRow). h.clock.0) (handle_at old n)
clock_same old new n same =
    sym (clock_bare (handle_at new n)) ∙ ap (λ (o : Option HandleRow). option_map (λ (h : HandleRow). h.clock.0) o) (at_bare old new n same) ∙ clock_bare (handle_at old n)

-- ---- two states that look alike

module _ (words : ℕ) (s : State) (new : Registers) (after : List (Option HandleRow)) (x : Rest) (look : LooksAlike words s new after) where
  abbrev t : State
  t = beside s new after x

  long : length new ≡ length s.regs
  long = (fields_of_masks words s.defs s.regs new look.valid look.masks).words

  abbrev seen : Option ℕ → (ℕ → Option ℕ) → List ℕ → (ℕ → Option ℕ) → List ℕ → Scene
  seen late sel prepares clock_at holds = record {
    up = link_in s.clocks;
    there = registered s.clocks;
    order = s.order;
    sel = sel;
    prepares = prepares;
    clock_at = clock_at;
    prepare_holds = s.prepare_holds;
    enable_holds = holds;
    late = late;
  }

  abbrev clocks_at : List (Option HandleRow) → ℕ → Option ℕ
  clocks_at handles n = option_map (λ h. h.clock.0) (handle_at handles n)

  -- the scene is the same
  pub scene_same : (late : Option ℕ) → x.enable_holds ≡ s.enable_holds → scene late t ≡ scene late s
  scene_same late holds =
      ap (λ (sel : ℕ → Option ℕ). seen late sel (clocks_of is_prepared after) (clocks_at after) x.enable_holds) (fun_ext (selected_same words s new after x look))
      ∙ ap (λ (cs : List ℕ). seen late (selected s.defs s.regs) cs (clocks_at after) x.enable_holds)
      (values_same (λ h. h.clock.0) is_prepared s.handles after (λ h. refl) (λ h. refl) look.handles)
      ∙ ap (λ (f : ℕ → Option ℕ). seen late (selected s.defs s.regs) (clocks_of is_prepared s.handles) f x.enable_holds) (fun_ext (λ n. clock_same s.handles after n look.handles))
      ∙ ap (λ (hs : List ℕ). seen late (selected s.defs s.regs) (clocks_of is_prepared s.handles) (clocks_at s.handles) hs) holds

  power_same : (c : ℕ) (o : Option PowerBit) → power_of (kind_of s.defs c) ≡ o → IfSome o (λ p. is_powered s.regs p ≡ true) → IfSome o (λ p. is_powered new p ≡ true)
  power_same c None at on = on
  power_same c (Some p) at on =
      sym (ap (λ (o : Option PowerBit). option_map_or (λ q. is_set new q.word q.bit) o false) at) ∙ runs_same words s.defs s.regs new c look.valid look.masks
      ∙ ap (λ (o : Option PowerBit). option_map_or (λ q. is_set s.regs q.word q.bit) o false) at ∙ on

  -- it is as fit
  pub fit_same : (late : Option ℕ) → x.enable_holds ≡ s.enable_holds → EnablesPrepared after → IsFit late s → IsFit late t
  fit_same late holds enables fit = record {
    wired = record { valid = subst (λ (n : ℕ). IsValid n s.defs) (sym long) fit.wired.valid; rows = fit.wired.rows; links = fit.wired.links };
    sound = subst (λ (a : Scene). scenes.IsSound s.defs a) (sym (scene_same late holds)) fit.sound;
    enables = enables;
    powers = λ c on. power_same c (power_of (kind_of s.defs c)) refl (fit.powers c (sym (ap (λ (p : ℕ → Bool). p c) (prepared_same words s new after x look)) ∙ on));
  }

  raise_same : (k : Change) (c : ℕ) → to_raise t k c ≡ to_raise s k c
  raise_same k c =
      ap (λ (ps : List ℕ). filter (λ y. not (is_in y k.raised)) (filter (λ a. is_pll (kind_of s.defs a) && not (prepared t a)) ps)) (path_same words s new after x look c)
      ∙ ap (λ (p : ℕ → Bool). filter (λ y. not (is_in y k.raised)) (filter (λ a. is_pll (kind_of s.defs a) && not (p a)) (path_to_be s.defs s.regs s.clocks c)))
      (prepared_same words s new after x look)

  still_raise : (k : Change) (c : ClockId) → StillToRaise s k c → StillToRaise t k c
  still_raise k c still = subst (λ (ys : List ℕ). k.again + length ys ≤ plls s.defs) (sym (raise_same k c.0)) still

  still_lower : (k : Change) (c : ClockId) → StillToLower s k c → StillToLower t k c
  still_lower k c still = subst (λ (ys : List ℕ). k.again + length ys ≤ plls s.defs) (sym (lower_same words s new after x look c.0)) still

  front_same : (k : Change) → Front s k → Front t k
  front_same k (tells winds none) = tells winds none
  front_same k (polls y front some none) = polls y front some none
  front_same k (polls_to_raise y c front some still) = polls_to_raise y c front some (still_raise k c still)
  front_same k (raises c front still) = raises c front (still_raise k c still)
  front_same k (lowers c front still) = lowers c front (still_lower k c still)

  -- a change goes on as evenly
  pub paced_same : (k : Change) → IsPaced s k → IsPaced t k
  paced_same k paced = record { front = front_same k paced.front; script = paced.script; last = paced.last; aborts = paced.aborts }

  -- and as much is left of it
  pub left_same : (k : Change) → weight_left t k ≡ weight_left s k
  unfolding weight_left
  left_same k = refl

-- ---- a state like a reached one

-- the rest of its enable tier's part is as the other's, or less
record IsRestOf (x : Rest) (r : State) : Type 0 where
  holds : x.enable_holds ≡ r.enable_holds
  change : x.change ≡ r.change
  spent : x.spent ≤ r.spent
  steps : x.steps ≤ r.steps

rest_like : (words : ℕ) (s : State) → (like : IsLike words s) → IsRestOf (rest_of s) like.other
rest_like words s like = record { holds = like.holds; change = like.change; spent = like.spent; steps = like.steps }

looks_like : (words : ℕ) (s : State) → (like : IsLike words s) → LooksAlike words like.other s.regs s.handles
looks_like words s like = looks_alike words like.other s (wired_reached words like.other like.reached).wired.valid like.same

-- what holds of the other beside its registers, handles and rest holds of it
by_other : (words : ℕ) (s : State) (P : State → Type 0) (like : IsLike words s) → P (beside like.other s.regs s.handles (rest_of s)) → P s
by_other words s P like holds = subst P (sym (is_beside like.other s like.same)) holds

-- it has the other's description
pub defs_like : (words : ℕ) (s : State) (like : IsLike words s) → s.defs ≡ like.other.defs
defs_like words s like = ap (λ (u : State). u.defs) (is_beside like.other s like.same)

-- its tree is wired over a valid description with so many words
wired_beside : (words : ℕ) (r : State) (defs : Description) (new : Registers) (after : List (Option HandleRow)) (x : Rest) → LooksAlike words r new after → IsWiredOver defs words r
    → IsWiredOver defs words (beside r new after x)
wired_beside words r defs new after x look is = record { same = is.same; size = long words r new after x look ∙ is.size; wired = record { valid = is.wired.valid; rows = is.wired.rows; links = is.wired.links }; order = is.order }

pub wired_like : (words : ℕ) (s : State) (like : IsLike words s) → IsWiredOver like.reached.defs words s
wired_like words s like =
    by_other words s (λ (u : State). IsWiredOver like.reached.defs words u) like
    (wired_beside words like.other like.reached.defs s.regs s.handles (rest_of s) (looks_like words s like) (wired_reached words like.other like.reached))

-- its links are kept
links_beside : (r : State) (new : Registers) (after : List (Option HandleRow)) (x : Rest) → IsRestOf x r → KeepsLinks r → KeepsLinks (beside r new after x)
links_beside r new after x rest is = record {
  ends = is.ends;
  links = is.links;
  order = is.order;
  will = subst (λ (o : Option Change). WillBePossible r.defs o) (sym rest.change) is.will;
}

pub links_like : (words : ℕ) (s : State) → IsLike words s → KeepsLinks s
links_like words s like =
    by_other words s (λ (u : State). KeepsLinks u) like (links_beside like.other s.regs s.handles (rest_of s) (rest_like words s like) (links_reached words like.other like.reached))

-- it has room for the entries that may still come
room_beside : (words : ℕ) (r : State) (new : Registers) (after : List (Option HandleRow)) (x : Rest) → LooksAlike words r new after → IsRestOf x r → HasRoom r → HasRoom (beside r new after x)
room_beside words r new after x look rest has =
    let most = has.spent in
    let fits = has.room in
    let spent = rest.spent in
    let steps = rest.steps in
    record {
      change = λ k at.
          let goes = has.change k (sym rest.change ∙ at) in
          let room = goes.room in
          let now : left_of (beside r new after x) ≡ weight_left (beside r new after x) k = ap (λ (o : Option Change). option_map_or (weight_left (beside r new after x)) o 0) at in
          let was : left_of r ≡ weight_left r k = ap (λ (o : Option Change). option_map_or (weight_left r) o 0) (sym rest.change ∙ at) in
          let same = left_same words r new after x look k in
          record { paced = paced_same words r new after x look k goes.paced; room = omega arith };
      spent = omega arith;
      room = omega arith;
    }

pub room_like : (words : ℕ) (s : State) → IsLike words s → HasRoom s
room_like words s like =
    by_other words s (λ (u : State). HasRoom u) like
    (room_beside words like.other s.regs s.handles (rest_of s) (looks_like words s like) (rest_like words s like) (room_reached words like.other like.reached))

-- its scene is the other's
pub scene_like : (words : ℕ) (s : State) (late : Option ℕ) → (like : IsLike words s) → scene late s ≡ scene late like.other
scene_like words s late like =
    ap (λ (u : State). scene late u) (is_beside like.other s like.same) ∙ scene_same words like.other s.regs s.handles (rest_of s) (looks_like words s like) late like.holds

-- and it is as fit
pub fit_like : (words : ℕ) (s : State) (late : Option ℕ) → (like : IsLike words s) → IsFit late like.other → IsFit late s
fit_like words s late like fit =
    by_other words s (λ (u : State). IsFit late u) like (fit_same words like.other s.regs s.handles (rest_of s) (looks_like words s like) late like.holds (enables like.handles) fit) where
      enables : (s.handles ≡ like.other.handles) ⊎ (s.handles ≡ bare s.handles) → EnablesPrepared s.handles
      enables (inl same) = subst EnablesPrepared (sym same) fit.enables
      enables (inr none) = bare_prepared s.handles none

-- ---- which states are like a reached one

-- a reached state is like itself
pub like_itself : (words : ℕ) (s : State) → IsReached words s → IsLike words s
like_itself words s is = record { other = s; reached = is; same = refl; handles = inl refl; holds = refl; change = refl; spent = omega arith; steps = omega arith }

-- a twin of a reached state is like it, if it has the same change in flight
pub twin_like : (words : ℕ) (s t : State) → IsReached words s → IsTwin t s → t.change ≡ s.change → IsLike words t
twin_like words s t is twin change = record { other = s; reached = is; same = twin.same; handles = inr twin.bare; holds = twin.holds; change = change; spent = twin.spent; steps = twin.steps }

-- that is so of any change but that of a sweep
pub twin_change : (s t : State) (k : Change) → IsTwin t s → s.change ≡ Some k → is_sweep k.call ≡ false → t.change ≡ s.change
twin_change s t k twin at other = same_change s t k twin.same at other ∙ sym at

-- and where none is in flight
pub twin_quiet : (s t : State) → IsTwin t s → s.change ≡ None → t.change ≡ s.change
twin_quiet s t twin quiet = by t.change (same_changes s t twin.same ∙ ap (λ (o : Option Change). option_map change_prep o) quiet) ∙ sym quiet where
  by : (o : Option Change) → option_map change_prep o ≡ None → o ≡ None
  by None e = refl
  by (Some k) e = absurd cc

-- so a state that a journal leads to is sound, if it is kept narrow
pub sound_reached : (words : ℕ) (s : State) → IsReached words s → IsNarrow words s → IsSound words s
sound_reached words s is narrow = record { like = like_itself words s is; narrow = narrow }
