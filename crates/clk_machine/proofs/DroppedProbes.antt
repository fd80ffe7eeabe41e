-- A registration that isn't made touches neither enables nor gates.
use Rattle.std.proofs.Common.{◌≡◌, ℕ, ◌||◌, Bool, true, false, List, [], ◌∷◌, ◌++◌, Option, Some, None, refl, sym, ap, ◌∙◌, inl, inr, length, append-nil}
use Rattle.std.specs.Prelude.{slice_get, IfSome, flat_map, if◌then◌else◌}
use Rattle.std.specs.List.{list_any}
use Rattle.std.specs.Option.{option_map_or}
use Rattle.std.proofs.lemmas.List.{append_assoc}
use Rattle.clk_base.specs.declared.call.Micro.{Micro}
use Rattle.clk_base.specs.declared.call.Micro.TheVariants as micro
use Rattle.clk_base.specs.declared.call.Sleeping.TheVariants as call
use Rattle.clk_base.specs.declared.clock.ClockId.{ClockId}
use Rattle.clk_base.specs.declared.event.Turn.TheVariants as turn
use Rattle.clk_base.specs.Flags.{is_critical}
use Rattle.clk_model.specs.Begin.{register}
use Rattle.clk_model.specs.Chain.{clock_id}
use Rattle.clk_model.specs.Holders.{prepared}
use Rattle.clk_model.specs.Laws.Flight.{Flight, script, IsLeftOf, all_left, own_made, put_made, cut, IsProbeCut}
use Rattle.clk_model.specs.Script.{adoptable, adoption, adoption_order, probe_script}
use Rattle.clk_model.specs.State.{State, Change}
use Rattle.clk_model.specs.Step.{is_end, is_register}
use Rattle.clk_model.specs.Tree.{link_given}
use Rattle.clk_model.proofs.BeginsLaws.{Starts, raising_handle, lowering_handle, planning, reparents, probing, sweeping}
use Rattle.clk_model.proofs.FlightLaws.{begin_is, course_of}
use Rattle.clk_model.proofs.NoneLaws.{none_append, none_behind, none_flat_map, none_front, none_rest}
use Rattle.clk_machine.proofs.BesideSteps.{touches}
use Rattle.clk_machine.proofs.Dropped.{flight_begins, none_ahead, of_script, one_none, put_touches}

-- the script of a registration: what stands in front of the registration touches nothing, and the end is the last
record IsProbe (ms : List Micro) : Type 0 where
  front : List Micro
  clock : ClockId
  rest : List Micro
  parts : ms ≡ (front ++ micro.Register clock ∷ rest) ++ micro.End ∷ []
  mild : list_any touches front ≡ false
  none : list_any is_end (front ++ micro.Register clock ∷ rest) ≡ false

probe_is : (s : State) (c : ℕ) → IsProbe (probe_script s c)
unfolding probe_script
probe_is s c = by (is_critical s.defs c) where
  adopts : List Micro
  adopts = flat_map (adoption s) (adoption_order (length (adoptable s)) s (adoptable s))

  no_end : list_any is_end adopts ≡ false
  no_end = none_flat_map is_end (adoption s) (adoption_order (length (adoptable s)) s (adoptable s)) (λ a. one (link_given s.defs s.regs s.clocks a) (prepared s a) a) where
    one : (o : Option ℕ) (t : Bool) (a : ℕ) → list_any is_end (option_map_or (λ p.
        if t
        then micro.Raise (clock_id p) ∷ micro.HoldPrepare (clock_id p) ∷ micro.HoldEnable (clock_id p) ∷ micro.HoldEnable (clock_id a)
        ∷ micro.Relink (clock_id a) (clock_id p) ∷ micro.DropEnable (clock_id a) ∷ micro.Settle (clock_id a) ∷ []
        else micro.Relink (clock_id a) (clock_id p) ∷ micro.Settle (clock_id a) ∷ []) o []) ≡ false
    one None t a = refl
    one (Some p) true a = refl
    one (Some p) false a = refl

  by : (b : Bool) → IsProbe ((if b then micro.Raise (clock_id c) ∷ [] else []) ++ micro.Register (clock_id c) ∷ [] ++ adopts ++ micro.End ∷ [])
  by true = record { front = micro.Raise (clock_id c) ∷ []; clock = clock_id c; rest = adopts; parts = refl; mild = refl; none = no_end }
  by false = record { front = []; clock = clock_id c; rest = adopts; parts = refl; mild = refl; none = no_end }

-- what is left of such a script before the registration: what touches nothing, and then the registration; or only the end, or nothing
data ProbeLeft (left : List Micro) : Type 0 where
  to_register : (front : List Micro) (c : ClockId) (rest : List Micro) → left ≡ front ++ micro.Register c ∷ rest → list_any touches front ≡ false → ProbeLeft left
  to_end : left ≡ micro.End ∷ [] → ProbeLeft left
  over : left ≡ [] → ProbeLeft left

has_register : (front rest : List Micro) (c : ClockId) → list_any is_register (front ++ micro.Register c ∷ rest) ≡ true
has_register [] rest c = refl
has_register (m ∷ front) rest c = ap (λ (b : Bool). is_register m || b) (has_register front rest c) ∙ or_on (is_register m) where
  or_on : (b : Bool) → (b || true) ≡ true
  or_on true = refl
  or_on false = refl

-- nothing stands behind the last end
last_end : (xs ys zs : List Micro) → list_any is_end xs ≡ false → xs ++ micro.End ∷ [] ≡ ys ++ micro.End ∷ zs → zs ≡ []
last_end [] [] zs none e = sym cc
last_end [] (y ∷ ys) zs none e = let gone : ys ++ micro.End ∷ zs ≡ [] = sym cc in absurd (some ys gone) where
  some : (ys : List Micro) → ys ++ micro.End ∷ zs ≡ [] → ⊥
  some [] f = cc
  some (x ∷ xs) f = cc
last_end (x ∷ xs) [] zs none e = let here : x ≡ micro.End = cc in let no : true ≡ false = sym (ap is_end here) ∙ none_front is_end x xs none in absurd cc
last_end (x ∷ xs) (y ∷ ys) zs none e = last_end xs ys zs (none_rest is_end x xs none) (rest e) where
  rest : {us vs : List Micro} → x ∷ us ≡ y ∷ vs → us ≡ vs
  rest h = cc

is_the_end : (m : Micro) → is_end m ≡ true → m ≡ micro.End
is_the_end micro.End e = refl
is_the_end _ e = absurd cc

-- what a timeout leaves from the first end on
from_end : (whole left : List Micro) → IsProbe whole → (before : List Micro) → whole ≡ before ++ left → IfSome (slice_get left 0) (λ m. is_end m ≡ true) → ProbeLeft left
from_end whole [] is before parts first = over refl
from_end whole (m ∷ ms) is before parts first =
    let here = is_the_end m first in
    let none = last_end (is.front ++ micro.Register is.clock ∷ is.rest) before ms is.none (sym is.parts ∙ parts ∙ ap (λ (x : Micro). before ++ x ∷ ms) here) in
    to_end (ap (λ (x : Micro). x ∷ ms) here ∙ ap (λ (xs : List Micro). micro.End ∷ xs) none)

-- what is behind something in one end
behind_end : (xs ys : List Micro) → micro.End ∷ [] ≡ xs ++ ys → ProbeLeft ys
behind_end [] ys e = to_end (sym e)
behind_end (x ∷ []) ys e = over (sym cc)
behind_end (x ∷ y ∷ xs) ys e = absurd cc

behind_none : (xs ys : List Micro) → [] ≡ xs ++ ys → ProbeLeft ys
behind_none [] ys e = over (sym e)
behind_none (x ∷ xs) ys e = absurd cc

-- what is left of a registration is an end of its script, also after a timeout
cut_end : (b : Bool) (more left : List Micro) → IsProbeCut b more left → (whole before : List Micro) → whole ≡ before ++ more → (front : List Micro) × (whole ≡ front ++ left)
cut_end true more left from_first whole before parts = (before ++ from_first.front, parts ∙ ap (λ (ms : List Micro). before ++ ms) from_first.parts ∙ sym (append_assoc before from_first.front left))
cut_end false more left (inl behind) whole before parts =
    let passed : List Micro = behind.front ++ behind.passed ∷ [] in
    let here : more ≡ passed ++ left = behind.parts ∙ sym (append_assoc behind.front (behind.passed ∷ []) left) in
    (before ++ passed, parts ∙ ap (λ (ms : List Micro). before ++ ms) here ∙ sym (append_assoc before passed left))
cut_end false more left (inr none) whole before parts = (whole, sym (append-nil whole) ∙ ap (λ (ms : List Micro). whole ++ ms) (sym none.1))

probe_end : (c : ClockId) (whole : List Micro) {made : List Micro} {late : Bool} {left : List Micro} → IsLeftOf (call.Probe c) whole made late left → (front : List Micro) × (whole ≡ front ++ left)
probe_end c whole all_left = ([], refl)
probe_end c whole {left = left} (own_made m f) =
    let end = probe_end c whole f in
    (end.0 ++ m ∷ [], end.1 ∙ sym (append_assoc end.0 (m ∷ []) left))
probe_end c whole (put_made m put f) = probe_end c whole f
probe_end c whole (cut {left = more} {rest = rest} f cuts) =
    let end = probe_end c whole f in
    cut_end (list_any is_register more) more rest cuts whole end.0 end.1

-- the steps that a registration has made before it is made touch nothing
probe_made : (c : ClockId) (whole : List Micro) → IsProbe whole → {made : List Micro} {late : Bool} {left : List Micro} → IsLeftOf (call.Probe c) whole made late left
    → list_any is_register made ≡ false → list_any is_end made ≡ false → (list_any touches made ≡ false) × ProbeLeft left
probe_made c whole is all_left fresh going = (refl, to_register is.front is.clock (is.rest ++ micro.End ∷ []) (is.parts ∙ append_assoc is.front (micro.Register is.clock ∷ is.rest) (micro.End ∷ [])) is.mild)
probe_made c whole is (own_made {made = made} {left = left} m f) fresh going =
    let before = probe_made c whole is f (none_ahead is_register made (m ∷ []) fresh) (none_ahead is_end made (m ∷ []) going) in
    own before.0 before.1 (none_front is_register m [] (none_behind is_register made (m ∷ []) fresh)) (none_front is_end m [] (none_behind is_end made (m ∷ []) going)) where
      own : list_any touches made ≡ false → ProbeLeft (m ∷ left) → is_register m ≡ false → is_end m ≡ false → (list_any touches (made ++ m ∷ []) ≡ false) × ProbeLeft left
      own none (to_register [] k rest parts mild) other on = let here : m ≡ micro.Register k = cc in let no : true ≡ false = sym (ap is_register here) ∙ other in absurd cc
      own none (to_register (x ∷ front) k rest parts mild) other on =
          let here : m ≡ x = cc in
          let behind : left ≡ front ++ micro.Register k ∷ rest = cc in
          (none_append touches made (m ∷ []) none (one_none touches m (ap touches here ∙ none_front touches x front mild)), to_register front k rest behind (none_rest touches x front mild))
      own none (to_end e) other on = let here : m ≡ micro.End = cc in let no : true ≡ false = sym (ap is_end here) ∙ on in absurd cc
      own none (over e) other on = absurd cc
probe_made c whole is (put_made {made = made} m put f) fresh going =
    let before = probe_made c whole is f (none_ahead is_register made (m ∷ []) fresh) (none_ahead is_end made (m ∷ []) going) in
    (none_append touches made (m ∷ []) before.0 (one_none touches m (put_touches m put)), before.1)
probe_made c whole is (cut {left = left} {rest = rest} f cuts) fresh going =
    let before = probe_made c whole is f fresh going in
    let end = probe_end c whole f in
    (before.0, by before.1 end.0 end.1) where
      from : (b : Bool) → IsProbeCut b left rest → list_any is_register left ≡ b → ProbeLeft left → (before : List Micro) → whole ≡ before ++ left → ProbeLeft rest
      from true from_first has left_ before parts =
          from_end whole rest is (before ++ from_first.front) (parts ∙ ap (λ (ms : List Micro). before ++ ms) from_first.parts ∙ sym (append_assoc before from_first.front rest)) from_first.first
      from false (inl behind) has (to_register front k more parts' mild) before parts = let no : true ≡ false = sym (has_register front more k) ∙ sym (ap (list_any is_register) parts') ∙ has in absurd cc
      from false (inl behind) has (to_end e) before parts = behind_end (behind.front ++ behind.passed ∷ []) rest (sym e ∙ behind.parts ∙ sym (append_assoc behind.front (behind.passed ∷ []) rest))
      from false (inl behind) has (over e) before parts = behind_none (behind.front ++ behind.passed ∷ []) rest (sym e ∙ behind.parts ∙ sym (append_assoc behind.front (behind.passed ∷ []) rest))
      from false (inr none) has left_ before parts = over none.1

      by : ProbeLeft left → (before : List Micro) → whole ≡ before ++ left → ProbeLeft rest
      by left_ before parts = from (list_any is_register left) cuts refl left_ before parts

probe_starts : (q n : State) (d : ℕ) (c : ClockId) (k : Change) → Starts q d (call.Probe c) n k → IsProbe k.left
probe_starts q n d c k (raising_handle g row is at) = absurd cc
probe_starts q n d c k (lowering_handle g row is at gives_up) = absurd cc
probe_starts q n d c k (planning _ number row over_ x ks range planned_ at is rates) = absurd cc
probe_starts q n d c k (reparents number row p sets at away mux m root) = absurd cc
probe_starts q n d c k (probing b is free) = probe_is (register q b.0) b.0
probe_starts q n d c k (sweeping is) = absurd cc

-- so a registration that wasn't made has touched nothing
pub probe_mild : (q s : State) (d : ℕ) (c : ClockId) (made : List Micro) → Flight q d (call.Probe c) s made → list_any is_register made ≡ false → list_any is_end made ≡ false → list_any touches made ≡ false
probe_mild q s d c made flight fresh going =
    let course = course_of q d (call.Probe c) flight in
    let start = flight_begins q d (call.Probe c) flight in
    let goes = (begin_is q start.0 d (call.Probe c) turn.Going start.1).2 in
    (probe_made c (script q d (call.Probe c)) (of_script q d (call.Probe c) IsProbe goes (λ n k starts_. probe_starts q n d c k starts_)) course.left fresh going).0
