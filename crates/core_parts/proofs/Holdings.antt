-- Counts that stand for a state, where a handle of it changes.
use Rattle.std.proofs.Common.{◌≡◌, ℕ, ◌+◌, ◌<◌, ◌&&◌, Bool, true, false, cond, List, [], ◌∷◌, ◌++◌, Option, Some, None, refl, sym, ap, subst, ◌∙◌, arith, length, set, nat_eq}
use Rattle.std.specs.Prelude.{sum_by, count_by, filter, slice_index, slice_index_or, slice_set}
use Rattle.std.proofs.lemmas.List.Sums.{sum_by-cons}
use Rattle.std.proofs.lemmas.List.{get_or-set_same, get_or-set_other}
use Rattle.clk_base.specs.declared.clock.ClockId.{ClockId}
use Rattle.clk_base.specs.Description.{Description}
use Rattle.clk_base.specs.Flags.{is_critical, sets_rate_gate}
use Rattle.clk_model.specs.declared.row.ClockRow.{ClockRow}
use Rattle.clk_model.specs.declared.row.HandleRow.{HandleRow}
use Rattle.clk_model.specs.Lists.{present}
use Rattle.clk_model.specs.State.{State, registered, link_in, handle_at}
use Rattle.clk_model.specs.Begin.{put_handle, given}
use Rattle.clk_model.proofs.Members.{same_from_test, test_other}
use Rattle.clk_model.specs.Chain.{clock_id}
use Rattle.rate_requests.specs.Handles.{new_row}
use Rattle.counts_core.specs.Counted.{CountState, HasLinks}
use Rattle.counts_core.specs.Standing.{StandsFor}
use Rattle.core_parts.proofs.Shapes.{sum_by-set, sum_by-gone, sum_by-append}

-- ---- what a handle has of a clock

-- a count of a handle, where the handle is of this clock
abbrev pub part : (HandleRow → ℕ) → ℕ → HandleRow → ℕ
part count d h = cond (nat_eq h.clock.0 d) (count h) 0

-- the sum of a count over the handles of a clock
abbrev pub sum_on : (HandleRow → ℕ) → List (Option HandleRow) → ℕ → ℕ
sum_on count handles d = sum_by count (filter (λ h. nat_eq h.clock.0 d) (present handles))

filtered_step : (count : HandleRow → ℕ) (d : ℕ) (h : HandleRow) (hs mine : List HandleRow) (t : Bool) → nat_eq h.clock.0 d ≡ t → sum_by count mine ≡ sum_by (part count d) hs
    → sum_by count (cond t (h ∷ mine) mine) ≡ sum_by (part count d) (h ∷ hs)
filtered_step count d h hs mine true e rest =
    sum_by-cons count h mine
    ∙ ap (λ (n : ℕ). count h + n) rest
    ∙ sym (sum_by-cons (part count d) h hs ∙ ap (λ (t : Bool). cond t (count h) 0 + sum_by (part count d) hs) e)
filtered_step count d h hs mine false e rest =
    let cons : sum_by (part count d) (h ∷ hs) ≡ 0 + sum_by (part count d) hs =
    sum_by-cons (part count d) h hs ∙ ap (λ (t : Bool). cond t (count h) 0 + sum_by (part count d) hs) e in
    omega arith

pub sum_filtered : (count : HandleRow → ℕ) (d : ℕ) (hs : List HandleRow) → sum_by count (filter (λ h. nat_eq h.clock.0 d) hs) ≡ sum_by (part count d) hs
sum_filtered count d [] = refl
sum_filtered count d (h ∷ hs) = filtered_step count d h hs (filter (λ r. nat_eq r.clock.0 d) hs) (nat_eq h.clock.0 d) refl (sum_filtered count d hs)

-- a handle in the place of another, none in its place, and a new one
sum_on-put : (count : HandleRow → ℕ) (handles : List (Option HandleRow)) (n d : ℕ) (old new : HandleRow) → handle_at handles n ≡ Some old
    → sum_on count (set handles n (Some new)) d + part count d old ≡ sum_on count handles d + part count d new
sum_on-put count handles n d old new at =
    let one = sum_filtered count d (present (set handles n (Some new))) in
    let two = sum_filtered count d (present handles) in
    let sums = sum_by-set (part count d) handles n old new at in
    omega arith

sum_on-gone : (count : HandleRow → ℕ) (handles : List (Option HandleRow)) (n d : ℕ) (old : HandleRow) → handle_at handles n ≡ Some old → count old ≡ 0
    → sum_on count (set handles n None) d ≡ sum_on count handles d
sum_on-gone count handles n d old at none =
    let one = sum_filtered count d (present (set handles n None)) in
    let two = sum_filtered count d (present handles) in
    let sums = sum_by-gone (part count d) handles n old at in
    let nothing = no_part (nat_eq old.clock.0 d) (count old) none in
    omega arith where
      no_part : (t : Bool) (k : ℕ) → k ≡ 0 → cond t k 0 ≡ 0
      no_part true k e = e
      no_part false k e = refl

sum_on-append : (count : HandleRow → ℕ) (handles : List (Option HandleRow)) (new : HandleRow) (d : ℕ) → count new ≡ 0
    → sum_on count (handles ++ Some new ∷ []) d ≡ sum_on count handles d
sum_on-append count handles new d none =
    let one = sum_filtered count d (present (handles ++ Some new ∷ [])) in
    let two = sum_filtered count d (present handles) in
    let sums = sum_by-append (part count d) handles new in
    let nothing = no_part (nat_eq new.clock.0 d) (count new) none in
    omega arith where
      no_part : (t : Bool) (k : ℕ) → k ≡ 0 → cond t k 0 ≡ 0
      no_part true k e = e
      no_part false k e = refl

-- ---- holders that change with a handle

-- holders of each clock change as what a handle has changes
abbrev pub Moves : (HandleRow → ℕ) → List ℕ → List ℕ → HandleRow → HandleRow → Type 0
Moves count xs ys old new = (d : ℕ) → slice_index ys d + part count d old ≡ slice_index xs d + part count d new

-- those of the clock of the handle alone
pub moves_one : (count : HandleRow → ℕ) (xs : List ℕ) (c value : ℕ) (old new : HandleRow) → c < length xs → old.clock.0 ≡ c → new.clock ≡ old.clock
    → value + count old ≡ slice_index xs c + count new → Moves count xs (slice_set xs c value) old new
moves_one count xs c value old new within mine same sum d = by (nat_eq c d) refl where
  tested : (t : Bool) → nat_eq c d ≡ t → (part count d old ≡ cond t (count old) 0) × (part count d new ≡ cond t (count new) 0)
  tested t e = (
    ap (λ (k : ℕ). cond (nat_eq k d) (count old) 0) mine ∙ ap (λ (b : Bool). cond b (count old) 0) e,
    ap (λ (k : ClockId). cond (nat_eq k.0 d) (count new) 0) same ∙ ap (λ (k : ℕ). cond (nat_eq k d) (count new) 0) mine ∙ ap (λ (b : Bool). cond b (count new) 0) e,
  )

  by : (t : Bool) → nat_eq c d ≡ t → slice_index (slice_set xs c value) d + part count d old ≡ slice_index xs d + part count d new
  by true e =
      let same_place = same_from_test c d e in
      let at : slice_index (slice_set xs c value) d ≡ value = ap (slice_index (slice_set xs c value)) (sym same_place) ∙ get_or-set_same xs c value 0 within in
      let was : slice_index xs d ≡ slice_index xs c = ap (slice_index xs) (sym same_place) in
      let parts = tested true e in
      let one = parts.0 in
      let two = parts.1 in
      omega arith
  by false e =
      let at : slice_index (slice_set xs c value) d ≡ slice_index xs d = get_or-set_other xs c d value 0 (λ same. test_other c d e (sym same)) in
      let parts = tested false e in
      let one = parts.0 in
      let two = parts.1 in
      omega arith

-- none at all
pub moves_none : (count : HandleRow → ℕ) (xs : List ℕ) (old new : HandleRow) → new.clock ≡ old.clock → count new ≡ count old → Moves count xs xs old new
moves_none count xs old new same counts d =
    let parts : part count d new ≡ part count d old =
    ap (λ (k : ClockId). cond (nat_eq k.0 d) (count new) 0) same ∙ ap (λ (k : ℕ). cond (nat_eq old.clock.0 d) k 0) counts in
    omega arith

-- ---- counts that stand for a state

-- what a clock has of its own: its handles' part, one if it is critical and registered, and its holds
abbrev own_all : (HandleRow → ℕ) → Description → List ClockRow → List (Option HandleRow) → List ℕ → ℕ → ℕ
own_all count defs clocks handles holds c = sum_on count handles c + cond (is_critical defs c && registered clocks c) 1 0 + count_by (λ h. nat_eq h c) holds

-- they stand for another state with the same links, handles and holds
pub StandsFor-same : (k : CountState) (s t : State) → StandsFor k s → t.defs ≡ s.defs → t.clocks ≡ s.clocks → t.handles ≡ s.handles → t.prepare_holds ≡ s.prepare_holds
    → t.enable_holds ≡ s.enable_holds → StandsFor k t
StandsFor-same k s t stands defs clocks handles prepare_holds enable_holds = record {
  size = stands.size ∙ ap (λ (ds : Description). length ds) (sym defs);
  gated = λ c. stands.gated c ∙ ap (λ (ds : Description). sets_rate_gate ds c) (sym defs);
  links = subst (λ (cs : List ClockRow). HasLinks cs k.links) (sym clocks) stands.links;
  enables = λ c. stands.enables c ∙ sym (own_same (λ h. h.enables) t.enable_holds s.enable_holds enable_holds c);
  prepares = λ c. stands.prepares c ∙ sym (own_same (λ h. h.prepares) t.prepare_holds s.prepare_holds prepare_holds c);
  exclusives = λ c. stands.exclusives c ∙ sym (ap (λ (hs : List (Option HandleRow)). sum_on (λ h. h.exclusives) hs c) handles);
} where
  own_same : (count : HandleRow → ℕ) (holds holds' : List ℕ) → holds ≡ holds' → (c : ℕ)
      → own_all count t.defs t.clocks t.handles holds c ≡ own_all count s.defs s.clocks s.handles holds' c
  own_same count holds holds' same c =
      ap (λ (ds : Description). own_all count ds t.clocks t.handles holds c) defs
      ∙ ap (λ (cs : List ClockRow). own_all count s.defs cs t.handles holds c) clocks
      ∙ ap (λ (hs : List (Option HandleRow)). own_all count s.defs s.clocks hs holds c) handles
      ∙ ap (λ (held : List ℕ). own_all count s.defs s.clocks s.handles held c) same

-- and for one with the same links and handles, where each clock is held as often
pub StandsFor-held : (k : CountState) (s t : State) → StandsFor k s → t.defs ≡ s.defs → t.clocks ≡ s.clocks → t.handles ≡ s.handles
    → ((c : ℕ) → count_by (λ h. nat_eq h c) t.prepare_holds ≡ count_by (λ h. nat_eq h c) s.prepare_holds) → ((c : ℕ) → count_by (λ h. nat_eq h c) t.enable_holds ≡ count_by (λ h. nat_eq h c) s.enable_holds)
    → StandsFor k t
StandsFor-held k s t stands defs clocks handles prepare_holds enable_holds =
    let same : StandsFor k (record t { prepare_holds = s.prepare_holds; enable_holds = s.enable_holds }) =
    StandsFor-same k s (record t { prepare_holds = s.prepare_holds; enable_holds = s.enable_holds }) stands defs clocks handles refl refl in
    record {
      size = same.size;
      gated = same.gated;
      links = same.links;
      enables = λ c. let was = same.enables c in let held = enable_holds c in omega arith;
      prepares = λ c. let was = same.prepares c in let held = prepare_holds c in omega arith;
      exclusives = same.exclusives;
    }

-- so do counts with other holders, where the holds differ by as much
pub StandsFor-moved : (k k' : CountState) (s t : State) → StandsFor k s → k'.gated ≡ k.gated → k'.links ≡ k.links → k'.exclusives ≡ k.exclusives → t.defs ≡ s.defs → t.clocks ≡ s.clocks → t.handles ≡ s.handles
    → ((c : ℕ) → slice_index k'.enables c + count_by (λ h. nat_eq h c) s.enable_holds ≡ slice_index k.enables c + count_by (λ h. nat_eq h c) t.enable_holds)
    → ((c : ℕ) → slice_index k'.prepares c + count_by (λ h. nat_eq h c) s.prepare_holds ≡ slice_index k.prepares c + count_by (λ h. nat_eq h c) t.prepare_holds)
    → StandsFor k' t
StandsFor-moved k k' s t stands gates linked exclusives defs clocks handles enables prepares =
    let same : StandsFor k (record t { prepare_holds = s.prepare_holds; enable_holds = s.enable_holds }) =
    StandsFor-same k s (record t { prepare_holds = s.prepare_holds; enable_holds = s.enable_holds }) stands defs clocks handles refl refl in
    record {
      size = ap (λ (ls : List (Option ClockId)). length ls) linked ∙ same.size;
      gated = λ c. ap (λ (bs : List Bool). slice_index_or bs c false) gates ∙ same.gated c;
      links = subst (λ (ls : List (Option ClockId)). HasLinks t.clocks ls) (sym linked) same.links;
      enables = λ c. let was = same.enables c in let held = enables c in omega arith;
      prepares = λ c. let was = same.prepares c in let held = prepares c in omega arith;
      exclusives = λ c. ap (λ (xs : List ℕ). slice_index xs c) exclusives ∙ same.exclusives c;
    }

-- so do counts with other links for a state that has these, where the same clocks are registered
pub StandsFor-linked : (k k' : CountState) (s t : State) → StandsFor k s → k'.gated ≡ k.gated → length k'.links ≡ length k.links → k'.enables ≡ k.enables → k'.prepares ≡ k.prepares → k'.exclusives ≡ k.exclusives → HasLinks t.clocks k'.links
    → t.defs ≡ s.defs → ((c : ℕ) → registered t.clocks c ≡ registered s.clocks c) → t.handles ≡ s.handles → t.prepare_holds ≡ s.prepare_holds → t.enable_holds ≡ s.enable_holds → StandsFor k' t
StandsFor-linked k k' s t stands gates size enables prepares exclusives links defs there handles prepare_holds enable_holds = record {
  size = size ∙ stands.size ∙ ap (λ (ds : Description). length ds) (sym defs);
  gated = λ c. ap (λ (bs : List Bool). slice_index_or bs c false) gates ∙ stands.gated c ∙ ap (λ (ds : Description). sets_rate_gate ds c) (sym defs);
  links = links;
  enables = λ c. ap (λ (xs : List ℕ). slice_index xs c) enables ∙ stands.enables c ∙ sym (own_like (λ h. h.enables) t.enable_holds s.enable_holds enable_holds c);
  prepares = λ c. ap (λ (xs : List ℕ). slice_index xs c) prepares ∙ stands.prepares c ∙ sym (own_like (λ h. h.prepares) t.prepare_holds s.prepare_holds prepare_holds c);
  exclusives = λ c. ap (λ (xs : List ℕ). slice_index xs c) exclusives ∙ stands.exclusives c ∙ sym (ap (λ (hs : List (Option HandleRow)). sum_on (λ h. h.exclusives) hs c) handles);
} where
  own_like : (count : HandleRow → ℕ) (holds holds' : List ℕ) → holds ≡ holds' → (c : ℕ)
      → own_all count t.defs t.clocks t.handles holds c ≡ own_all count s.defs s.clocks s.handles holds' c
  own_like count holds holds' same c =
      ap (λ (ds : Description). own_all count ds t.clocks t.handles holds c) defs
      ∙ ap (λ (b : Bool). sum_on count t.handles c + cond (is_critical s.defs c && b) 1 0 + count_by (λ h. nat_eq h c) holds) (there c)
      ∙ ap (λ (hs : List (Option HandleRow)). own_all count s.defs s.clocks hs holds c) handles
      ∙ ap (λ (held : List ℕ). own_all count s.defs s.clocks s.handles held c) same

-- and the same counts where the rows of clocks differ, but neither in links nor in who is registered
pub StandsFor-like : (k : CountState) (s t : State) → StandsFor k s → t.defs ≡ s.defs → ((c : ℕ) → link_in t.clocks c ≡ link_in s.clocks c) → ((c : ℕ) → registered t.clocks c ≡ registered s.clocks c)
    → t.handles ≡ s.handles → t.prepare_holds ≡ s.prepare_holds → t.enable_holds ≡ s.enable_holds → StandsFor k t
StandsFor-like k s t stands defs links there handles prepare_holds enable_holds =
    StandsFor-linked k k s t stands refl refl refl refl refl (λ c. links c ∙ stands.links c) defs there handles prepare_holds enable_holds

-- and for a state with another handle in the place of one, where the holders change with it
pub StandsFor-put : (k k' : CountState) (s : State) (n : ℕ) (old new : HandleRow) → StandsFor k s → handle_at s.handles n ≡ Some old
    → k'.gated ≡ k.gated → k'.links ≡ k.links → Moves (λ h. h.enables) k.enables k'.enables old new → Moves (λ h. h.prepares) k.prepares k'.prepares old new
    → Moves (λ h. h.exclusives) k.exclusives k'.exclusives old new
    → StandsFor k' (put_handle s n (Some new))
StandsFor-put k k' s n old new stands at gates links enables prepares exclusives = record {
  size = ap (λ (ls : List (Option ClockId)). length ls) links ∙ stands.size;
  gated = λ c. ap (λ (bs : List Bool). slice_index_or bs c false) gates ∙ stands.gated c;
  links = subst (λ (ls : List (Option ClockId)). HasLinks s.clocks ls) (sym links) stands.links;
  enables = λ d.
      let moved = enables d in
      let was = stands.enables d in
      let sums = sum_on-put (λ h. h.enables) s.handles n d old new at in
      omega arith;
  prepares = λ d.
      let moved = prepares d in
      let was = stands.prepares d in
      let sums = sum_on-put (λ h. h.prepares) s.handles n d old new at in
      omega arith;
  exclusives = λ d.
      let moved = exclusives d in
      let was = stands.exclusives d in
      let sums = sum_on-put (λ h. h.exclusives) s.handles n d old new at in
      omega arith;
}

-- without a handle that holds nothing
pub StandsFor-gone : (k : CountState) (s : State) (n : ℕ) (old : HandleRow) → StandsFor k s → handle_at s.handles n ≡ Some old → old.enables ≡ 0 → old.prepares ≡ 0 → old.exclusives ≡ 0
    → StandsFor k (put_handle s n None)
StandsFor-gone k s n old stands at enables prepares exclusives = record {
  size = stands.size;
  gated = stands.gated;
  links = stands.links;
  enables = λ d. let was = stands.enables d in let sums = sum_on-gone (λ h. h.enables) s.handles n d old at enables in omega arith;
  prepares = λ d. let was = stands.prepares d in let sums = sum_on-gone (λ h. h.prepares) s.handles n d old at prepares in omega arith;
  exclusives = λ d. let was = stands.exclusives d in let sums = sum_on-gone (λ h. h.exclusives) s.handles n d old at exclusives in omega arith;
}

-- with a new one
pub StandsFor-given : (k : CountState) (s : State) (driver c : ℕ) → StandsFor k s → StandsFor k (given s driver c).0
StandsFor-given k s driver c stands = record {
  size = stands.size;
  gated = stands.gated;
  links = stands.links;
  enables = λ d. let was = stands.enables d in let sums = sum_on-append (λ h. h.enables) s.handles (new_row driver (clock_id c)) d refl in omega arith;
  prepares = λ d. let was = stands.prepares d in let sums = sum_on-append (λ h. h.prepares) s.handles (new_row driver (clock_id c)) d refl in omega arith;
  exclusives = λ d. let was = stands.exclusives d in let sums = sum_on-append (λ h. h.exclusives) s.handles (new_row driver (clock_id c)) d refl in omega arith;
}
