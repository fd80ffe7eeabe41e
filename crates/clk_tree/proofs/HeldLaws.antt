-- Laws on the fields of a tree.
use Rattle.std.proofs.Common.{◌≡◌, ◌≢◌, ℕ, suc, ◌+◌, ◌<◌, ◌≤◌, Bool, true, cond, List, [], Option, Some, None, refl, sym, ap, subst, ◌∙◌, arith, length, nat_lt, false, drop, replicate, ◌⊎◌, inl, inr}
use Rattle.std.specs.Prelude.{slice_get, slice_index, slice_set, IfSome, Result}
use Rattle.std.specs.Option.{option_map}
use Rattle.std.specs.Result.{MatchResult, result_ok}
use Rattle.std.proofs.lemmas.Bool.{cases_lt}
use Rattle.clk_base.specs.declared.clock.ClockId.{ClockId}
use Rattle.clk_base.specs.Description.{Description, parents_of}
use Rattle.clk_base.specs.Valid.{IsValid}
use Rattle.clk_base.proofs.Valid.{lines_end}
use Rattle.clk_model.specs.declared.row.ClockRow.{ClockRow}
use Rattle.clk_model.specs.Lists.{is_in, to_front}
use Rattle.clk_model.specs.Script.{plls}
use Rattle.clk_model.specs.State.{row_of, registered, unregistered_row, requested}
use Rattle.clk_model.specs.Tree.{children}
use Rattle.clk_tree.specs.declared.group.Group.{Group}
use Rattle.clk_tree.specs.declared.group.Group.TheVariants.{ChildrenOf}
use Rattle.clk_tree.specs.Groups.{members, group_of, IsGroup, end_of, AreListed}
use Rattle.clk_tree.specs.Held.{IsHeld}
use Rattle.clk_tree.specs.Rings.{Leads, ring_of}
use Rattle.clk_tree.specs.Rooted.{TellsRooted}
use Rattle.clk_tree.specs.TreeState.{IsTree, attached}
use Rattle.clk_tree.proofs.Along.{AreBelow, ComesAt, leads_comes, comes_behind, never_alone, clock_first, clock_at, get_drop, in_drop}
use Rattle.clk_tree.proofs.GroupLaws.{Moves, order_below, members_below, none_beyond, end_out, end_beyond, end_within, listed_attached, listed_requested}
use Rattle.clk_tree.proofs.RingLaws.{ring_is}
use Rattle.clk_tree.proofs.RootedLaws.{UpdatesFlags, tells_attached, tells_none, tells_requested}
use Rattle.clk_tree.proofs.Rows.{tree_made, tree_attached, tree_requested, order-few, link-requested, registered-requested}
use Rattle.clk_model.proofs.StateLaws.{row_of-set_same, row_of-set_other}
use Rattle.clk_model.proofs.PllLaws.{at_place as stands_in}

-- the order that a ring of turns has
abbrev order_in : Description → List ℕ → List ℕ
order_in defs turns = ring_of turns (length defs)

-- ---- asked

-- what holds of each list behind an end holds of a group's
pub at_place : (defs : Description) (clocks : List ClockRow) (rates turns siblings : List ℕ) (most : ℕ) (flags : List Bool) (count end k : ℕ) (group : Group) (found : Result ClockId ℕ)
    → IsHeld defs clocks rates turns siblings most flags → IsGroup (length defs) group → count ≡ length defs → end ≡ end_of count group
    → ((xs : List ℕ) → AreBelow count xs → count ≤ end → Leads siblings end end xs → MatchResult found (λ c. slice_get xs k ≡ Some c.0) (λ left. k ≡ length xs + left))
    → MatchResult found (λ c. slice_get (members defs clocks (ring_of turns (length defs)) group) k ≡ Some c.0) (λ left. k ≡ length (members defs clocks (ring_of turns (length defs)) group) + left)
at_place defs clocks rates turns siblings most flags count end k group found held is same at each =
    let ends : end ≡ end_of (length defs) group = at ∙ ap (λ (n : ℕ). end_of n group) same in
    let far = end_beyond (length defs) group in
    let below = members_below defs clocks (order_in defs turns) rates group held.tree in
    each (members defs clocks (order_in defs turns) group) (λ x m. let less : x < length defs = below x m in omega arith) (omega arith)
    (subst (λ (e : ℕ). Leads siblings e e (members defs clocks (order_in defs turns) group)) (sym ends) (held.listed.each group is))

pub child_is : (defs : Description) (clocks : List ClockRow) (rates turns siblings : List ℕ) (most : ℕ) (flags : List Bool) (count end k : ℕ) (p : ClockId) (found : Result ClockId ℕ)
    → IsHeld defs clocks rates turns siblings most flags → p.0 < count → count ≡ length defs → end ≡ end_of count (ChildrenOf p)
    → ((xs : List ℕ) → AreBelow count xs → count ≤ end → Leads siblings end end xs → MatchResult found (λ c. slice_get xs k ≡ Some c.0) (λ left. k ≡ length xs + left))
    → option_map (λ c. c.0) (result_ok found) ≡ slice_get (children (ring_of turns (length defs)) clocks p.0) k
child_is defs clocks rates turns siblings most flags count end k p found held inside same at each =
    clock_at (members defs clocks (order_in defs turns) (ChildrenOf p)) k found
    (at_place defs clocks rates turns siblings most flags count end k (ChildrenOf p) found held (omega arith) same at each)

pub no_child : (defs : Description) (clocks : List ClockRow) (order rates : List ℕ) (count p k : ℕ) → IsTree defs clocks order rates → count ≡ length defs → count ≤ p
    → None ≡ slice_get (children order clocks p) k
no_child defs clocks order rates count p k tree same beyond = sym (ap (λ (xs : List ℕ). slice_get xs k) (none_beyond defs clocks order rates p tree (omega arith)))

pub first_is : (defs : Description) (clocks : List ClockRow) (rates turns siblings : List ℕ) (most : ℕ) (flags : List Bool) (count end at : ℕ) (p : ClockId) (found : Option ClockId)
    → IsHeld defs clocks rates turns siblings most flags → p.0 < count → count ≡ length defs → end ≡ end_of count (ChildrenOf p) → at ≡ slice_index siblings end
    → found ≡ cond (nat_lt at count) (Some (let c : ClockId = record { 0 = at } in c)) None
    → option_map (λ c. c.0) found ≡ slice_get (children (ring_of turns (length defs)) clocks p.0) 0
first_is defs clocks rates turns siblings most flags count end at p found held inside same ends is e =
    let kids : List ℕ = members defs clocks (order_in defs turns) (ChildrenOf p) in
    let place : p.0 < length defs = omega arith in
    let below = members_below defs clocks (order_in defs turns) rates (ChildrenOf p) held.tree in
    let end_is : end ≡ length defs + p.0 = ends ∙ ap (λ (n : ℕ). end_of n (ChildrenOf p)) same in
    clock_first siblings end at count kids found (λ x m. let less : x < length defs = below x m in omega arith) (omega arith)
    (subst (λ (a : ℕ). ComesAt siblings end a kids) (sym is)
    (leads_comes siblings end end kids (subst (λ (x : ℕ). Leads siblings x x kids) (sym end_is) (held.listed.each (ChildrenOf p) place)))) e

-- what stands behind a clock of a group is the next of the group
pub next_is : (defs : Description) (clocks : List ClockRow) (rates turns siblings : List ℕ) (most : ℕ) (flags : List Bool) (count at c k : ℕ) (group : Group) (found : Option ClockId)
    → IsHeld defs clocks rates turns siblings most flags → IsGroup (length defs) group → count ≡ length defs → at ≡ slice_index siblings c
    → found ≡ cond (nat_lt at count) (Some (let d : ClockId = record { 0 = at } in d)) None
    → slice_get (members defs clocks (ring_of turns (length defs)) group) k ≡ Some c
    → option_map (λ d. d.0) found ≡ slice_get (members defs clocks (ring_of turns (length defs)) group) (k + 1)
next_is defs clocks rates turns siblings most flags count at c k group found held one same is e here =
    let all : List ℕ = members defs clocks (order_in defs turns) group in
    let end : ℕ = end_of (length defs) group in
    let far = end_beyond (length defs) group in
    let below = members_below defs clocks (order_in defs turns) rates group held.tree in
    clock_first siblings end at count (drop (suc k) all) found
    (λ x m. let less : x < length defs = below x (in_drop x (suc k) all m) in omega arith) (omega arith)
    (subst (λ (a : ℕ). ComesAt siblings end a (drop (suc k) all)) (sym is) (comes_behind siblings end end k c all (held.listed.each group one) here)) e
    ∙ get_drop all (suc k) ∙ ap (slice_get all) (let more : suc k ≡ k + 1 = omega arith in more)

-- who has a child is a clock
pub parent_place : (defs : Description) (clocks : List ClockRow) (order rates : List ℕ) (c p k : ℕ) → IsTree defs clocks order rates → slice_get (children order clocks p) k ≡ Some c → p < length defs
parent_place defs clocks order rates c p k tree here = inside (cases_lt p (length defs)) where
  inside : (p < length defs) ⊎ (length defs ≤ p) → p < length defs
  inside (inl lies) = lies
  inside (inr beyond) = let none : slice_get [] k ≡ Some c = ap (λ (xs : List ℕ). slice_get xs k) (sym (none_beyond defs clocks order rates p tree beyond)) ∙ here in absurd cc

-- who is in a group is a clock
pub no_member : (defs : Description) (clocks : List ClockRow) (order rates : List ℕ) (count c k : ℕ) (group : Group) → IsTree defs clocks order rates → count ≡ length defs → count ≤ c
    → slice_get (members defs clocks order group) k ≡ Some c → ⊥
no_member defs clocks order rates count c k group tree same beyond here =
    let less : c < length defs = members_below defs clocks order rates group tree c (stands_in (members defs clocks order group) k c here) in absurd (omega arith)

-- and isn't alone in its ring
pub not_alone : (defs : Description) (clocks : List ClockRow) (rates turns siblings : List ℕ) (most : ℕ) (flags : List Bool) (c k : ℕ) (group : Group)
    → IsHeld defs clocks rates turns siblings most flags → IsGroup (length defs) group
    → slice_get (members defs clocks (ring_of turns (length defs)) group) k ≡ Some c → slice_index siblings c ≡ c → ⊥
not_alone defs clocks rates turns siblings most flags c k group held one here alone =
    let all : List ℕ = members defs clocks (order_in defs turns) group in
    let end : ℕ = end_of (length defs) group in
    let far = end_beyond (length defs) group in
    let less : c < length defs = members_below defs clocks (order_in defs turns) rates group held.tree c (stands_in all k c here) in
    never_alone siblings end c (drop (suc k) all) (λ same. omega arith) (comes_behind siblings end end k c all (held.listed.each group one) here) alone

-- ---- made

pub held_made : (words : ℕ) (defs : Description) (rates turns siblings : List ℕ) (most : ℕ) (flags : List Bool) (count : ℕ) → IsValid words defs → count ≡ length defs → length rates ≡ length defs
    → length turns ≡ count + 1 → length siblings ≡ count + count + 2 → ((i : ℕ) → i < count + 1 → slice_index turns i ≡ i) → ((i : ℕ) → i < count + count + 2 → slice_index siblings i ≡ i)
    → most ≡ plls defs → flags ≡ replicate (length defs) false → (ring_of turns (length defs) ≡ []) × IsHeld defs (replicate (length defs) unregistered_row) rates turns siblings most flags
held_made words defs rates turns siblings most flags count valid same rated turn_size size turn_alone alone counted down = (
  none,
  record {
    tree = subst (λ (order : List ℕ). IsTree defs (replicate (length defs) unregistered_row) order rates) (sym none) (tree_made defs rates (lines_end words defs valid) rated);
    listed = subst (λ (order : List ℕ). AreListed defs (replicate (length defs) unregistered_row) order turns siblings) (sym none) (record {
      turn_size = omega arith;
      size = omega arith;
      turn = turn_alone (length defs) (omega arith);
      each = λ group is. alone (end_of (length defs) group) (end_within (length defs) (count + count + 2) group is (omega arith));
    });
    alone = λ c place gone. alone c (omega arith);
    counted = counted;
    rooted = tells_none defs flags down;
  },
) where
  none : ring_of turns (length defs) ≡ []
  none = ring_is turns (length defs) [] (omega arith) refl (turn_alone (length defs) (omega arith))

-- ---- changed

-- a tree in which a clock was attached, and its order
pub held_attached : (words : ℕ) (defs : Description) (clocks found : List ClockRow) (rates turns siblings turns' siblings' : List ℕ) (most : ℕ) (flags flags' : List Bool) (c : ℕ) (parent : Option ClockId) (row : ClockRow)
    → IsValid words defs → IsHeld defs clocks rates turns siblings most flags → c < length defs
    → IfSome parent (λ q. registered clocks q.0 ≡ true) → IfSome parent (λ q. is_in q.0 (parents_of defs c) ≡ true)
    → row ≡ row_of found c → found ≡ clocks
    → Moves siblings siblings' (end_of (length defs) (group_of defs c parent)) c → Moves turns turns' (length defs) c → UpdatesFlags defs siblings' flags flags' c parent
    → (ring_of turns' (length defs) ≡ to_front c (ring_of turns (length defs)))
    × IsHeld defs (slice_set clocks c (record row { registered = true; link = parent })) rates turns' siblings' most flags'
held_attached words defs clocks found rates turns siblings turns' siblings' most flags flags' c parent row valid held place there can is same moved turned sets = (
  order,
  subst (λ (r : ClockRow). IsHeld defs (slice_set clocks c (record r { registered = true; link = parent })) rates turns' siblings' most flags')
      (sym (is ∙ ap (λ (rows : List ClockRow). row_of rows c) same))
      (record {
        tree = subst (λ (xs : List ℕ). IsTree defs (attached clocks c parent) xs rates) (sym order) tree;
        listed = subst (λ (xs : List ℕ). AreListed defs (attached clocks c parent) xs turns' siblings') (sym order) listed;
        alone = alone;
        counted = held.counted;
        rooted = flagged;
      }),
) where
  front : List ℕ
  front = to_front c (order_in defs turns)

  tree : IsTree defs (attached clocks c parent) front rates
  tree = tree_attached defs clocks (order_in defs turns) rates c parent held.tree place there can

  listed : AreListed defs (attached clocks c parent) front turns' siblings'
  listed = listed_attached words defs clocks (order_in defs turns) rates turns siblings turns' siblings' c parent valid held.tree held.listed place there can moved turned

  alone : (d : ℕ) → d < length defs → registered (attached clocks c parent) d ≡ false → slice_index siblings' d ≡ d
  alone d inside gone =
      let far = end_beyond (length defs) (group_of defs c parent) in
      let other : c ≢ d = (λ is_c. attached_there (ap (registered (attached clocks c parent)) is_c ∙ gone)) in
      moved.stays d (λ is_end. omega arith) (λ is_c. other (sym is_c))
      (held.alone d inside (ap (λ (r : ClockRow). r.registered) (sym (row_of-set_other clocks c _ d other)) ∙ gone)) where
        attached_there : registered (attached clocks c parent) c ≡ false → ⊥
        attached_there none =
            let there : registered (attached clocks c parent) c ≡ true = ap (λ (r : ClockRow). r.registered) (row_of-set_same clocks c _ (let rows = held.tree.rows in omega arith)) in cc

  flagged : TellsRooted defs (attached clocks c parent) flags'
  flagged =
      tells_attached words defs clocks (order_in defs turns) front rates turns' siblings' flags flags' c parent valid held.tree tree listed
      (let rows = held.tree.rows in omega arith) held.rooted sets

  order : ring_of turns' (length defs) ≡ front
  order =
      ring_is turns' (length defs) front (order-few defs (attached clocks c parent) front rates tree)
      (end_out (length defs) (length defs) front (order_below defs (attached clocks c parent) front rates tree) (omega arith)) listed.turn

-- and one with another last request
pub held_requested : (defs : Description) (clocks found : List ClockRow) (rates turns siblings : List ℕ) (most : ℕ) (flags : List Bool) (c rate : ℕ) (row : ClockRow)
    → IsHeld defs clocks rates turns siblings most flags → c < length defs → row ≡ row_of found c → found ≡ clocks
    → IsHeld defs (slice_set clocks c (record row { last_request = rate })) rates turns siblings most flags
held_requested defs clocks found rates turns siblings most flags c rate row held place is same =
    subst (λ (r : ClockRow). IsHeld defs (slice_set clocks c (record r { last_request = rate })) rates turns siblings most flags)
    (sym (is ∙ ap (λ (rows : List ClockRow). row_of rows c) same))
    (record {
      tree = tree_requested defs clocks (order_in defs turns) rates c rate held.tree place;
      listed = listed_requested defs clocks (requested clocks c rate) (order_in defs turns) turns siblings (λ d. link-requested clocks c rate d within) held.listed;
      alone = λ d inside gone. held.alone d inside (sym (registered-requested clocks c rate d within) ∙ gone);
      counted = held.counted;
      rooted = tells_requested defs clocks flags c rate within held.rooted;
    }) where
      within : c < length clocks
      within = let rows = held.tree.rows in omega arith
