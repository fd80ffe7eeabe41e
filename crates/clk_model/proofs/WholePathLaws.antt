-- Laws on where paths end, and on what a new link or a registration leaves of them.
use Rattle.std.proofs.Common.{set, ◌≡◌, ℕ, zero, suc, ◌-◌, ◌<◌, ◌≤◌, Bool, true, false, List, [], ◌∷◌, ◌++◌, length, Option, Some, None, refl, sym, ap, subst, ◌∙◌, ◌⊎◌, inl, inr, arith, nat_eq}
use Rattle.std.specs.Prelude.{slice_get, if◌then◌else◌}
use Rattle.std.proofs.Math.ListN.{length-set}
use Rattle.std.specs.Option.{option_map, option_map_or}
use Rattle.clk_base.specs.Description.{Description, parents_of}
use Rattle.clk_base.specs.Levels.{depth, ends_within}
use Rattle.clk_base.proofs.Lines.{ends_within-parent}
use Rattle.clk_model.specs.declared.row.ClockRow.{ClockRow}
use Rattle.clk_model.specs.Lists.{is_in, none_twice}
use Rattle.clk_model.specs.State.{State, row_of, link_in}
use Rattle.clk_model.specs.Tree.{path_within, path, link_given}
use Rattle.clk_model.specs.Chain.{clock_id, linked}
use Rattle.clk_model.specs.Begin.{registered_rows, register}
use Rattle.clk_model.specs.Laws.Paths.{RegistersGivePaths, RegistersStayPossible, PathsEnd, RelinksLeavePaths, CanLink, RelinksTurnPaths, RelinksStayPossible}
use Rattle.clk_model.proofs.Members.{is_in_head, is_in_tail, same_from_test, test_other}
use Rattle.clk_model.proofs.PathLaws.{above, in_above, path_agree, path_cons, some_levels}
use Rattle.clk_model.proofs.PlanLaws.{not_above_parent}
use Rattle.clk_model.proofs.BelowLaws.{IsUp, path_rises, rises_above}
use Rattle.clk_model.proofs.PllLaws.{link_given_possible}
use Rattle.clk_model.proofs.WalkLaws.{linked_lt}
use Rattle.clk_model.proofs.StateLaws.{row_of-set_same, row_of-set_other}
use Rattle.clk_model.specs.Wired.{LinesEnd, LinksArePossible}
use Rattle.clk_model.proofs.OnceLaws.{once_cons}

-- ---- levels

above_more : (up : ℕ → Option ℕ) (n m : ℕ) (o : Option ℕ) → ((p : ℕ) → o ≡ Some p → path_within up m p ≡ path_within up n p) → above up m o ≡ above up n o
above_more up n m None same = refl
above_more up n m (Some p) same = same p refl

-- where lines of possible parents end within some levels, more levels give the same path
pub path_more : (parents : ℕ → List ℕ) (up : ℕ → Option ℕ) (n m c : ℕ) → IsUp parents up → ends_within parents n c ≡ true → n ≤ m
    → path_within up m c ≡ path_within up n c
path_more parents up zero m c is ends le = absurd cc
path_more parents up (suc n) zero c is ends le = absurd (omega arith)
path_more parents up (suc n) (suc m) c is ends le =
    ap (λ (ps : List ℕ). c ∷ ps)
    (above_more up n m (up c) (λ p e. path_more parents up n m p is (ends_within-parent parents n c p ends (is c p e)) (omega arith)))

few_above : (up : ℕ → Option ℕ) (n : ℕ) (o : Option ℕ) → ((p : ℕ) → length (path_within up n p) ≤ n) → length (above up n o) ≤ n
few_above up n None few = omega arith
few_above up n (Some p) few = few p

-- a path has no more clocks than it may have levels
pub path_few : (up : ℕ → Option ℕ) (n c : ℕ) → length (path_within up n c) ≤ n
path_few up zero c = omega arith
path_few up (suc n) c = let rest = few_above up n (up c) (path_few up n) in omega arith

-- ---- the line of links

path_first : (parents : ℕ → List ℕ) (up : ℕ → Option ℕ) (n c : ℕ) → ends_within parents n c ≡ true → slice_get (path_within up n c) 0 ≡ Some c
path_first parents up zero c ends = absurd cc
path_first parents up (suc n) c ends = refl

next_here : (up : ℕ → Option ℕ) (n : ℕ) (o : Option ℕ) → ((p : ℕ) → o ≡ Some p → slice_get (path_within up n p) 0 ≡ Some p) → slice_get (above up n o) 0 ≡ o
next_here up n None first = refl
next_here up n (Some p) first = first p refl

next_above : (up : ℕ → Option ℕ) (n k a : ℕ) (o : Option ℕ)
    → ((p : ℕ) → o ≡ Some p → slice_get (path_within up n p) k ≡ Some a → slice_get (path_within up n p) (suc k) ≡ up a)
    → slice_get (above up n o) k ≡ Some a → slice_get (above up n o) (suc k) ≡ up a
next_above up n k a None next at = absurd cc
next_above up n k a (Some p) next at = next p refl at

-- behind each clock of a path stands its link
path_next : (parents : ℕ → List ℕ) (up : ℕ → Option ℕ) (n c k a : ℕ) → IsUp parents up → ends_within parents n c ≡ true
    → slice_get (path_within up n c) k ≡ Some a → slice_get (path_within up n c) (suc k) ≡ up a
path_next parents up zero c k a is ends at = absurd cc
path_next parents up (suc n) c zero a is ends at =
    let same : c ≡ a = cc in
    next_here up n (up c) (λ p e. path_first parents up n p (ends_within-parent parents n c p ends (is c p e))) ∙ ap up same
path_next parents up (suc n) c (suc k) a is ends at =
    next_above up n k a (up c) (λ p e. path_next parents up n p k a is (ends_within-parent parents n c p ends (is c p e))) at

get_past : (xs : List ℕ) → slice_get xs (length xs) ≡ None
get_past [] = refl
get_past (x ∷ xs) = get_past xs

-- where behind each element stands what a way up gives, it gives nothing for the last
last_ends : (up : ℕ → Option ℕ) (xs : List ℕ) (a : ℕ) → ((k b : ℕ) → slice_get xs k ≡ Some b → slice_get xs (suc k) ≡ up b)
    → slice_get xs (length xs - 1) ≡ Some a → up a ≡ None
last_ends up [] a next at = absurd cc
last_ends up (x ∷ xs) a next at =
    let less : suc (length xs) - 1 ≡ length xs = omega arith in
    sym (next (length xs) a (ap (slice_get (x ∷ xs)) (sym less) ∙ at)) ∙ get_past (x ∷ xs)

-- ---- no clock twice

-- a clock isn't above its own link
not_above : (parents : ℕ → List ℕ) (up : ℕ → Option ℕ) (levels n c p : ℕ) → IsUp parents up → ends_within parents levels c ≡ true → up c ≡ Some p
    → is_in c (path_within up n p) ≡ true → ⊥
not_above parents up levels n c p is ends at m =
    let way = path_rises up n p c m in
    not_above_parent parents levels c p ends (is c p at) (rises_above parents up way.0 p c is way.1)

once_above : (up : ℕ → Option ℕ) (n : ℕ) (o : Option ℕ) → ((p : ℕ) → o ≡ Some p → none_twice (path_within up n p) ≡ true) → none_twice (above up n o) ≡ true
once_above up n None once = refl
once_above up n (Some p) once = once p refl

-- no clock stands twice on a path
pub path_once : (parents : ℕ → List ℕ) (up : ℕ → Option ℕ) (n c : ℕ) → IsUp parents up → ends_within parents n c ≡ true → none_twice (path_within up n c) ≡ true
path_once parents up zero c is ends = refl
path_once parents up (suc n) c is ends =
    once_cons c (above up n (up c))
    (λ m. let q = in_above up n c (up c) m in not_above parents up (suc n) n c q.0 is ends q.1 q.2)
    (once_above up n (up c) (λ p e. path_once parents up n p is (ends_within-parent parents n c p ends (is c p e))))

-- each path is whole
pub paths_end : PathsEnd
paths_end defs clocks ends links c =
    let up : ℕ → Option ℕ = link_in clocks in
    let next : (k a : ℕ) → slice_get (path clocks c) k ≡ Some a → slice_get (path clocks c) (suc k) ≡ up a = (λ k a. path_next (parents_of defs) up depth c k a links (ends c)) in
    record {
      line = record { first = path_first (parents_of defs) up depth c (ends c); next = next };
      last = λ a at. last_ends up (path clocks c) a next at;
      few = path_few up depth c;
      same = λ levels le. path_more (parents_of defs) up depth levels c links (ends c) le;
      once = path_once (parents_of defs) up depth c links (ends c);
      ancestors = λ a m. let way = path_rises up depth c a m in rises_above (parents_of defs) up way.0 c a links way.1;
    }

-- ---- a new link

-- the link of a clock that gets one
pub linked_same : (clocks : List ClockRow) (c p : ℕ) → c < length clocks → link_in (linked clocks c p) c ≡ Some p
linked_same clocks c p within =
    ap (λ (r : ClockRow). option_map (λ q. q.0) r.link) (row_of-set_same clocks c (record (row_of clocks c) { link = Some (clock_id p) }) within)

-- and that of each other clock
pub linked_other : (clocks : List ClockRow) (c p d : ℕ) → (c ≡ d → ⊥) → link_in (linked clocks c p) d ≡ link_in clocks d
linked_other clocks c p d other =
    ap (λ (r : ClockRow). option_map (λ q. q.0) r.link) (row_of-set_other clocks c (record (row_of clocks c) { link = Some (clock_id p) }) d other)

-- what has a member and what hasn't are two
pub other_member : (c a : ℕ) (xs : List ℕ) → is_in c xs ≡ false → is_in a xs ≡ true → c ≡ a → ⊥
other_member c a xs out m same = let there : is_in c xs ≡ true = ap (λ (x : ℕ). is_in x xs) same ∙ m in cc

within_leaves : (clocks : List ClockRow) (c p n d : ℕ) → is_in c (path_within (link_in clocks) n d) ≡ false
    → path_within (link_in (linked clocks c p)) n d ≡ path_within (link_in clocks) n d
within_leaves clocks c p n d out =
    path_agree (link_in clocks) (link_in (linked clocks c p)) n d
    (λ a m. linked_other clocks c p a (other_member c a (path_within (link_in clocks) n d) out m))

-- a path without the clock stays
pub relinks_leave_paths : RelinksLeavePaths
relinks_leave_paths clocks c p d out = within_leaves clocks c p depth d out

-- two numbers are the same or not
pub same_or_not : (x y : ℕ) → (x ≡ y) ⊎ (x ≡ y → ⊥)
same_or_not x y = by_test (nat_eq x y) refl where
  by_test : (t : Bool) → nat_eq x y ≡ t → (x ≡ y) ⊎ (x ≡ y → ⊥)
  by_test true e = inl (same_from_test x y e)
  by_test false e = inr (test_other x y e)

-- where a row gets a possible link or none, links stay possible
pub set_possible : (defs : Description) (clocks : List ClockRow) (c : ℕ) (row : ClockRow) → LinksArePossible defs clocks
    → ((q : ℕ) → option_map (λ p. p.0) row.link ≡ Some q → is_in q (parents_of defs c) ≡ true) → LinksArePossible defs (set clocks c row)
set_possible defs clocks c row links possible d q at = by_clock (same_or_not c d) where
  by_clock : (c ≡ d) ⊎ (c ≡ d → ⊥) → is_in q (parents_of defs d) ≡ true
  by_clock (inl same) =
      let below : d < length (set clocks c row) = linked_lt (set clocks c row) d q at in
      let size : length (set clocks c row) ≡ length clocks = simp length-set in
      let within : c < length clocks = omega arith in
      let here : link_in (set clocks c row) c ≡ Some q = ap (link_in (set clocks c row)) same ∙ at in
      ap (λ (x : ℕ). is_in q (parents_of defs x)) (sym same)
      ∙ possible q (sym (ap (λ (r : ClockRow). option_map (λ p. p.0) r.link) (row_of-set_same clocks c row within)) ∙ here)
  by_clock (inr other) =
      links d q (sym (ap (λ (r : ClockRow). option_map (λ p. p.0) r.link) (row_of-set_other clocks c row d other)) ∙ at)

-- so they do with a new link to a possible parent
pub relinks_stay_possible : RelinksStayPossible
relinks_stay_possible defs clocks c p links parent =
    set_possible defs clocks c (record (row_of clocks c) { link = Some (clock_id p) }) links
    (λ q e. let same : p ≡ q = cc in ap (λ (x : ℕ). is_in x (parents_of defs c)) (sym same) ∙ parent)

-- a possible parent of the clock hasn't it on its path
free_above : (defs : Description) (clocks : List ClockRow) (c p n : ℕ) → CanLink defs clocks c p → is_in c (path_within (link_in clocks) n p) ≡ false
free_above defs clocks c p n can = by_test (is_in c (path_within (link_in clocks) n p)) refl where
  by_test : (t : Bool) → is_in c (path_within (link_in clocks) n p) ≡ t → t ≡ false
  by_test false e = refl
  by_test true e =
      let way = path_rises (link_in clocks) n p c e in
      absurd (not_above_parent (parents_of defs) depth c p (can.ends c) can.parent (rises_above (parents_of defs) (link_in clocks) way.0 p c can.links way.1))

in_middle : (c : ℕ) (low high : List ℕ) → is_in c (low ++ c ∷ high) ≡ true
in_middle c [] high = is_in_head c high
in_middle c (l ∷ low) high = is_in_tail c l (low ++ c ∷ high) (in_middle c low high)

not_nothing : (c : ℕ) (low high : List ℕ) → [] ≡ low ++ c ∷ high → ⊥
not_nothing c [] high e = cc
not_nothing c (l ∷ low) high e = cc

-- from the clock itself the path goes on with that of the new parent
turn_here : (defs : Description) (clocks : List ClockRow) (c p n : ℕ) → CanLink defs clocks c p → ends_within (parents_of defs) (suc n) c ≡ true → suc n ≤ depth
    → path_within (link_in (linked clocks c p)) (suc n) c ≡ c ∷ path clocks p
turn_here defs clocks c p n can ends le =
    ap (λ (o : Option ℕ). c ∷ above (link_in (linked clocks c p)) n o) (linked_same clocks c p can.row)
    ∙ ap (λ (ps : List ℕ). c ∷ ps)
    (within_leaves clocks c p n p (free_above defs clocks c p n can)
    ∙ sym (path_more (parents_of defs) (link_in clocks) n depth p can.links (ends_within-parent (parents_of defs) n c p ends can.parent) (omega arith)))

-- a clock below it isn't that clock, and from its link on the path is as it turns there
turn_link : (defs : Description) (clocks : List ClockRow) (c p n d : ℕ) (low high : List ℕ) (o : Option ℕ) → CanLink defs clocks c p → ends_within (parents_of defs) (suc n) d ≡ true
    → ((q : ℕ) → ends_within (parents_of defs) n q ≡ true → path_within (link_in clocks) n q ≡ low ++ c ∷ high → path_within (link_in (linked clocks c p)) n q ≡ low ++ c ∷ path clocks p)
    → link_in clocks d ≡ o → above (link_in clocks) n o ≡ low ++ c ∷ high
    → (above (link_in (linked clocks c p)) n o ≡ low ++ c ∷ path clocks p) × (c ≡ d → ⊥)
turn_link defs clocks c p n d low high None can ends turns e rest = absurd (not_nothing c low high rest)
turn_link defs clocks c p n d low high (Some q) can ends turns e rest = (
  turns q (ends_within-parent (parents_of defs) n d q ends (can.links d q e)) rest,
  (λ same.
      not_above (parents_of defs) (link_in clocks) (suc n) n d q can.links ends e
      (ap (λ (x : ℕ). is_in x (path_within (link_in clocks) n q)) (sym same) ∙ ap (is_in c) rest ∙ in_middle c low high)),
)

turn_within : (defs : Description) (clocks : List ClockRow) (c p : ℕ) → CanLink defs clocks c p → (n d : ℕ) (low high : List ℕ)
    → ends_within (parents_of defs) n d ≡ true → n ≤ depth → path_within (link_in clocks) n d ≡ low ++ c ∷ high
    → path_within (link_in (linked clocks c p)) n d ≡ low ++ c ∷ path clocks p
turn_within defs clocks c p can zero d low high ends le at = absurd cc
turn_within defs clocks c p can (suc n) d [] high ends le at =
    let same : d ≡ c = cc in
    subst (λ (x : ℕ). path_within (link_in (linked clocks c p)) (suc n) x ≡ c ∷ path clocks p) (sym same)
    (turn_here defs clocks c p n can (subst (λ (x : ℕ). ends_within (parents_of defs) (suc n) x ≡ true) same ends) le)
turn_within defs clocks c p can (suc n) d (l ∷ low) high ends le at =
    let same : d ≡ l = cc in
    let rest : above (link_in clocks) n (link_in clocks d) ≡ low ++ c ∷ high = cc in
    let turned =
    turn_link defs clocks c p n d low high (link_in clocks d) can ends (λ q ends' at'. turn_within defs clocks c p can n q low high ends' (omega arith) at') refl rest in
    ap (λ (o : Option ℕ). d ∷ above (link_in (linked clocks c p)) n o) (linked_other clocks c p d turned.1)
    ∙ ap (λ (ps : List ℕ). d ∷ ps) turned.0
    ∙ ap (λ (x : ℕ). x ∷ (low ++ c ∷ path clocks p)) same

-- a path with the clock goes on with that of the new parent
pub relinks_turn_paths : RelinksTurnPaths
relinks_turn_paths defs clocks c p can d low high at = turn_within defs clocks c p can depth d low high (can.ends d) (omega arith) at

-- ---- a registration

-- the link that a registration gives
pub given_link : (s : State) (c : ℕ) → c < length s.clocks → link_in (registered_rows s.defs s.regs s.clocks c) c ≡ link_given s.defs s.regs s.clocks c
given_link s c within = ap (λ (r : ClockRow). option_map (λ p. p.0) r.link) (row_of-set_same s.clocks c _ within) ∙ back (link_given s.defs s.regs s.clocks c) where
  back : (o : Option ℕ) → option_map (λ p. p.0) (option_map clock_id o) ≡ o
  back None = refl
  back (Some p) = refl

-- a registration leaves each other link
pub given_others : (s : State) (c d : ℕ) → (c ≡ d → ⊥) → link_in (registered_rows s.defs s.regs s.clocks c) d ≡ link_in s.clocks d
given_others s c d other = ap (λ (r : ClockRow). option_map (λ q. q.0) r.link) (row_of-set_other s.clocks c _ d other)

-- links stay possible
pub registers_stay_possible : RegistersStayPossible
unfolding register
registers_stay_possible s c links =
    set_possible s.defs s.clocks c _ links (λ q e. link_given_possible s.defs s.regs s.clocks c q (sym (back (link_given s.defs s.regs s.clocks c)) ∙ e)) where
      back : (o : Option ℕ) → option_map (λ p. p.0) (option_map clock_id o) ≡ o
      back None = refl
      back (Some p) = refl

-- a path without the clock stays
pub registers_leave_paths : (s : State) (c d : ℕ) → is_in c (path s.clocks d) ≡ false → path (register s c).clocks d ≡ path s.clocks d
unfolding register
registers_leave_paths s c d out =
    path_agree (link_in s.clocks) (link_in (registered_rows s.defs s.regs s.clocks c)) depth d
    (λ a m. given_others s c a (other_member c a (path s.clocks d) out m))

-- what is above the link that a registration gives is so behind it
given_above : (s : State) (c : ℕ) (o : Option ℕ) → LinesEnd s.defs → LinksArePossible s.defs s.clocks → c < length s.clocks
    → ((p : ℕ) → o ≡ Some p → is_in p (parents_of s.defs c) ≡ true)
    → above (link_in (registered_rows s.defs s.regs s.clocks c)) (depth - 1) o ≡ option_map_or (path s.clocks) o []
given_above s c None ends links within is = refl
given_above s c (Some p) ends links within is =
    let can : CanLink s.defs s.clocks c p = record { ends = ends; links = links; row = within; parent = is p refl } in
    let some = some_levels in
    let one_more : suc (depth - 1) ≡ depth = omega arith in
    let fewer : depth - 1 ≤ depth = omega arith in
    path_agree (link_in s.clocks) (link_in (registered_rows s.defs s.regs s.clocks c)) (depth - 1) p
    (λ a m. given_others s c a (other_member c a (path_within (link_in s.clocks) (depth - 1) p) (free_above s.defs s.clocks c p (depth - 1) can) m))
    ∙ sym (path_more (parents_of s.defs) (link_in s.clocks) (depth - 1) depth p links
    (ends_within-parent (parents_of s.defs) (depth - 1) c p (ap (λ (n : ℕ). ends_within (parents_of s.defs) n c) one_more ∙ ends c) can.parent) fewer)

-- a registration gives the path that was to be
pub registers_give_paths : RegistersGivePaths
unfolding register
registers_give_paths s c ends links within free =
    path_cons (link_in (registered_rows s.defs s.regs s.clocks c)) depth c some_levels
    ∙ ap (λ (o : Option ℕ). c ∷ above (link_in (registered_rows s.defs s.regs s.clocks c)) (depth - 1) o) (given_link s c within)
    ∙ ap (λ (ps : List ℕ). c ∷ ps) (given_above s c (link_given s.defs s.regs s.clocks c) ends links within (λ p e. link_given_possible s.defs s.regs s.clocks c p e))
    ∙ sym (ap (λ (t : Bool). if t then path s.clocks c else c ∷ option_map_or (path s.clocks) (link_given s.defs s.regs s.clocks c) []) free)
