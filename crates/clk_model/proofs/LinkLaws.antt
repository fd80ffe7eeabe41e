-- Laws on links: they lead to possible parents through each run.
use Rattle.std.proofs.Common.{◌≡◌, ℕ, zero, suc, ◌+◌, ◌-◌, Bool, true, false, ◌||◌, cond, List, [], ◌∷◌, ◌++◌, map, Option, Some, None, refl, sym, ap, subst, ◌∙◌, length, set, nat_lt}
use Rattle.std.specs.Prelude.{◌==◌, nat_le, slice_get, slice_index, reverse, replicate}
use Rattle.std.specs.List.{list_all}
use Rattle.std.specs.Option.{option_map_or}
use Rattle.std.proofs.lemmas.List.{length-replicate}
use Rattle.clk_base.specs.declared.call.Micro.{Micro}
use Rattle.clk_base.specs.declared.call.Micro.TheVariants as micro
use Rattle.clk_base.specs.declared.call.Sleeping.{Sleeping}
use Rattle.clk_base.specs.declared.call.Sleeping.TheVariants as call
use Rattle.clk_base.specs.declared.event.Entry.{Entry}
use Rattle.clk_base.specs.declared.event.Event.TheVariants as event
use Rattle.clk_base.specs.declared.event.Turn.{Turn}
use Rattle.clk_base.specs.Description.{Description, parents_of}
use Rattle.clk_base.specs.Valid.{IsValid}
use Rattle.clk_base.proofs.Valid.{lines_end}
use Rattle.clk_model.specs.declared.row.ClockRow.{ClockRow}
use Rattle.clk_model.specs.State.{State, Change, is_quiet, unregistered_row, row_of, link_in, handle_at, requested}
use Rattle.clk_model.specs.Rate.{rate}
use Rattle.clk_model.specs.Gates.{settled}
use Rattle.clk_model.specs.Lists.{is_in, to_front}
use Rattle.clk_model.specs.Chain.{clock_id, linked}
use Rattle.clk_model.specs.Notices.{Rates, abort_list, post_list}
use Rattle.clk_base.specs.Levels.{depth}
use Rattle.clk_model.specs.Tree.{children}
use Rattle.clk_model.specs.Walk.{below_within}
use Rattle.clk_model.specs.Begin.{begun, prepared_once_more, held_once_more, request_between, register}
use Rattle.clk_model.specs.Step.{todo, rest_of, left_behind, taken, sets_parent, aborts_of, on, timed_out, to_raise, raise_one, raise, poll, is_yes, to_lower, lower_one, lower, set_in_chain, visit, settle_all, ended_well, unranged, stepped}
use Rattle.clk_model.specs.Machine.{paid, next}
use Rattle.clk_model.specs.Journal.{replay, opening}
use Rattle.clk_model.specs.Laws.LinksKept.{HasShapeOf, RunsAreWired, links_possible, WillBePossible, KeepsLinks, EventsKeepLinks, RunsKeepLinks}
use Rattle.clk_model.proofs.Members.{both_left, both_right}
use Rattle.clk_model.proofs.MicroLaws.{comes_first}
use Rattle.clk_model.proofs.PacedStepLaws.{step_defined}
use Rattle.clk_model.proofs.WholePathLaws.{linked_other, relinks_stay_possible}
use Rattle.clk_model.proofs.SiblingLaws.{order_front}
use Rattle.clk_model.proofs.ShapeLaws.{no_step, events_keep_shape}
use Rattle.clk_model.proofs.LinkBegins.{register_tied, register_defs, Comes, comes_call, comes_enable, comes_disable, comes_running}
use Rattle.clk_model.proofs.LinkScripts.{AllLink, link_append, link_front, link_left, link_map, link_aborts, link_posts, link_cut}
use Rattle.clk_model.specs.Wired.{LinesEnd, LinksArePossible, IsOrder}
use Rattle.clk_model.proofs.Cases.{by_option, by_test, by_handle}

-- ---- what a step leaves

-- links and the order as they ought to be
abbrev AreTied : Description → List ℕ → List ClockRow → Type 0
AreTied defs order clocks = LinksArePossible defs clocks × IsOrder order clocks

-- a change in flight without the step that is made: links are as they ought to be, and its steps link possible parents
record Going (s : State) (k : Change) : Type 0 where
  ends : LinesEnd s.defs
  tied : AreTied s.defs s.order s.clocks
  front : AllLink s.defs k.front
  left : AllLink s.defs k.left

-- a state with such links, and a change with such steps
made : (s y : State) (k l : Change) → Going s k → y.defs ≡ s.defs → AreTied s.defs y.order y.clocks → y.change ≡ Some l → AllLink s.defs l.front → AllLink s.defs l.left
    → KeepsLinks y
made s y k l going same tied at front left = record {
  ends = subst (λ (defs : Description). LinesEnd defs) (sym same) going.ends;
  links = subst (λ (defs : Description). LinksArePossible defs y.clocks) (sym same) tied.0;
  order = tied.1;
  will = subst (λ (defs : Description). WillBePossible defs y.change) (sym same)
      (subst (λ (o : Option Change). WillBePossible s.defs o) (sym at) (link_append s.defs l.front l.left front left));
}

either : (defs : Description) (t : Bool) (xs ys : List Micro) → AllLink defs xs → AllLink defs ys → AllLink defs (cond t xs ys)
either defs true xs ys e f = e
either defs false xs ys e f = f

raise_keeps : (s : State) (k : Change) (x : ℕ) → Going s k → KeepsLinks (raise s k x)
raise_keeps s k x going =
    by_option KeepsLinks (slice_get (reverse (to_raise s k x)) 0) (raise_one s k x) (on s (record k { again = 0 }))
    (made s _ k (record k { again = 0 }) going refl going.tied refl going.front going.left)
    (λ y. let more : Bool = nat_le 2 (length (to_raise s k x)) in
    made s (raise_one s k x y) k _ going refl going.tied refl
    (link_append s.defs (cond more (micro.Raise (clock_id x) ∷ []) []) k.front (either s.defs more (micro.Raise (clock_id x) ∷ []) [] refl refl) going.front) going.left)

lower_keeps : (s : State) (k : Change) (x : ℕ) → Going s k → KeepsLinks (lower s k x)
lower_keeps s k x going =
    by_option KeepsLinks (slice_get (to_lower s x) 0) (lower_one s k x) (on s (record k { again = 0 }))
    (made s _ k (record k { again = 0 }) going refl going.tied refl going.front going.left)
    (λ y. let more : Bool = nat_le 2 (length (to_lower s x)) in
    made s (lower_one s k x y) k _ going refl going.tied refl
    (link_append s.defs (cond more (micro.Lower (clock_id x) ∷ []) []) k.front (either s.defs more (micro.Lower (clock_id x) ∷ []) [] refl refl) going.front) going.left)

timed_out_keeps : (s : State) (k : Change) → Going s k → KeepsLinks (timed_out s (record k { polls = 0 }))
timed_out_keeps s k going =
    let rates : Rates = record { before = k.before; outcome = k.outcome } in
    made s (timed_out s (record k { polls = 0 })) k _ going refl going.tied refl
    (link_append s.defs (map (λ y. micro.Fall (clock_id y)) k.raised) (aborts_of s k) (link_map s.defs (λ (y : ℕ). micro.Fall (clock_id y)) k.raised (λ y. refl))
    (either s.defs (sets_parent k.call) (abort_list rates s.notifiers k.changing) [] (link_aborts s.defs rates s.notifiers k.changing) refl))
    (link_cut s.defs k.call k.left going.left)

poll_keeps : (s : State) (k : Change) (y : ℕ) (b : Bool) → Going s k → KeepsLinks (poll s k y b)
poll_keeps s k y true going = made s _ k (record k { polls = 0 }) going refl going.tied refl going.front going.left
poll_keeps s k y false going =
    by_test KeepsLinks (nat_le k.polls 1) (timed_out s (record k { polls = 0 })) (on s (record k { polls = k.polls - 1; front = micro.Poll (clock_id y) ∷ k.front }))
    (timed_out_keeps s k going) (made s _ k (record k { polls = k.polls - 1; front = micro.Poll (clock_id y) ∷ k.front }) going refl going.tied refl going.front going.left)

visit_keeps : (s : State) (k : Change) (c : ℕ) → Going s k → KeepsLinks (visit s k c)
visit_keeps s k c going =
    let rates : Rates = record { before = k.before; outcome = k.outcome } in
    let same : Bool = rate s.defs (set_in_chain s k c) s.clocks c == slice_index k.before c in
    made s (visit s k c) k _ going refl going.tied refl
    (link_append s.defs (cond same [] (post_list rates s.notifiers c)) k.front (either s.defs same [] (post_list rates s.notifiers c) refl (link_posts s.defs rates s.notifiers c)) going.front)
    going.left

-- a last request is no link
request_link : (clocks : List ClockRow) (c x d : ℕ) → link_in (set clocks c (record (row_of clocks c) { last_request = x })) d ≡ link_in clocks d
request_link [] c x d = refl
request_link (row ∷ clocks) zero x zero = refl
request_link (row ∷ clocks) zero x (suc d) = refl
request_link (row ∷ clocks) (suc c) x zero = refl
request_link (row ∷ clocks) (suc c) x (suc d) = request_link clocks c x d

tied_same : (defs : Description) (order : List ℕ) (old new : List ClockRow) → AreTied defs order old → ((d : ℕ) → link_in new d ≡ link_in old d) → AreTied defs order new
tied_same defs order old new tied same = (
  (λ c p at. tied.0 c p (sym (same c) ∙ at)),
  record { once = tied.1.once; linked = λ c p at. tied.1.linked c p (sym (same c) ∙ at) },
)

request_tied : (defs : Description) (order : List ℕ) (clocks : List ClockRow) (c x : ℕ) → AreTied defs order clocks
    → AreTied defs order (set clocks c (record (row_of clocks c) { last_request = x }))
request_tied defs order clocks c x tied = tied_same defs order clocks (set clocks c (record (row_of clocks c) { last_request = x })) tied (request_link clocks c x)

settle_tied : (s : State) (cs : List ℕ) → AreTied s.defs s.order s.clocks → AreTied s.defs s.order (settle_all s cs)
settle_tied s [] tied = tied
settle_tied s (c ∷ cs) tied = request_tied s.defs s.order (settle_all s cs) c (rate s.defs s.regs s.clocks c) (settle_tied s cs tied)

-- a new link to a possible parent
relink_tied : (s : State) (c p : ℕ) → AreTied s.defs s.order s.clocks → is_in p (parents_of s.defs c) ≡ true → AreTied s.defs (to_front c s.order) (linked s.clocks c p)
relink_tied s c p tied parent = (
  relinks_stay_possible s.defs s.clocks c p tied.0 parent,
  order_front s.order s.clocks (linked s.clocks c p) c tied.1 (linked_other s.clocks c p),
)

-- ---- the end

-- the same of a state without its change
abbrev EndsWell : State → Type 0
EndsWell y = KeepsLinks (record y { change = None })

plain_end : (s : State) (k : Change) → Going s k → EndsWell s
plain_end s k going = record { ends = going.ends; links = going.tied.0; order = going.tied.1; will = tt }

-- a range that is put back is no link
unranged_end : (s : State) (k : Change) → Going s k → EndsWell (unranged s k)
unranged_end s k going = record { ends = going.ends; links = going.tied.0; order = going.tied.1; will = tt }

end_keeps : (s : State) (k : Change) (d : ℕ) (what : Sleeping) → Going s k → EndsWell (ended_well s d what)
end_keeps s k d (call.Prepare h) going =
    by_handle EndsWell (handle_at s.handles h.number) (prepared_once_more s h.number) s (plain_end s k going) (λ row. record { ends = going.ends; links = going.tied.0; order = going.tied.1; will = tt })
end_keeps s k d (call.SetRate h x) going =
    by_handle EndsWell (handle_at s.handles h.number) (λ row. record s { clocks = requested s.clocks row.clock.0 x }) s (plain_end s k going)
    (λ row. record { ends = going.ends; links = (request_tied s.defs s.order s.clocks row.clock.0 x going.tied).0; order = (request_tied s.defs s.order s.clocks row.clock.0 x going.tied).1; will = tt })
end_keeps s k d (call.SetRateExclusive h x) going =
    by_handle EndsWell (handle_at s.handles h.number) (λ row. record (held_once_more s h.number row) { clocks = requested s.clocks row.clock.0 x }) s (plain_end s k going)
    (λ row. record { ends = going.ends; links = (request_tied s.defs s.order s.clocks row.clock.0 x going.tied).0; order = (request_tied s.defs s.order s.clocks row.clock.0 x going.tied).1; will = tt })
end_keeps s k d (call.SetRange h least most) going =
    by_handle EndsWell (handle_at s.handles h.number) (λ row. record s { clocks = requested s.clocks row.clock.0 (request_between s.clocks row.clock.0 least most) }) s (plain_end s k going)
    (λ row. record { ends = going.ends; links = (request_tied s.defs s.order s.clocks row.clock.0 (request_between s.clocks row.clock.0 least most) going.tied).0; order = (request_tied s.defs s.order s.clocks row.clock.0 (request_between s.clocks row.clock.0 least most) going.tied).1; will = tt })
end_keeps s k d _ going = plain_end s k going

-- ---- each step

register_made : (s : State) (k l : Change) (c : ℕ) → Going s k → AllLink s.defs l.front → AllLink s.defs l.left → KeepsLinks (on (register s c) l)
register_made s k l c going front left = made s (on (register s c) l) k l going (register_defs s c) (register_tied s c going.tied.0 going.tied.1) refl front left

step_keeps : (s : State) (k : Change) (answer : Option Bool) (m : Micro) → Going s k → links_possible s.defs m ≡ true → KeepsLinks (stepped s k answer m).0
unfolding stepped
step_keeps s k answer (micro.Notify kind c id old new) going will = made s _ k k going refl going.tied refl going.front going.left
step_keeps s k answer (micro.Raise x) going will = raise_keeps s k x.0 going
step_keeps s k answer (micro.Poll y) going will = poll_keeps s k y.0 (is_yes answer) going
step_keeps s k answer (micro.Fall y) going will = made s _ k _ going refl going.tied refl going.front going.left
step_keeps s k answer (micro.HoldPrepare x) going will = made s _ k _ going refl going.tied refl going.front going.left
step_keeps s k answer (micro.HoldEnable x) going will = made s _ k k going refl going.tied refl going.front going.left
step_keeps s k answer (micro.Relink c p) going will = made s _ k k going refl (relink_tied s c.0 p.0 going.tied will) refl going.front going.left
step_keeps s k answer (micro.WriteMux c place) going will = made s _ k k going refl going.tied refl going.front going.left
step_keeps s k answer (micro.DropEnable x) going will = made s _ k k going refl going.tied refl going.front going.left
step_keeps s k answer (micro.DropPrepare x) going will = made s _ k k going refl going.tied refl going.front going.left
step_keeps s k answer (micro.Lower x) going will = lower_keeps s k x.0 going
step_keeps s k answer (micro.Visit c) going will = visit_keeps s k c.0 going
step_keeps s k answer (micro.Register c) going will = register_made s k _ c.0 going going.front going.left
step_keeps s k answer (micro.Settle c) going will = made s _ k k going refl (settle_tied s (below_within (children s.order s.clocks) depth c.0) going.tied) refl going.front going.left
step_keeps s k answer (micro.Close c) going will = made s _ k k going refl going.tied refl going.front going.left
step_keeps s k answer (micro.Unpower c) going will = made s _ k k going refl going.tied refl going.front going.left
step_keeps s k answer micro.End going will =
    by_test EndsWell (k.vetoed || k.timed_out) (unranged s k) (ended_well s k.driver k.call) (unranged_end s k going) (end_keeps s k k.driver k.call going)

-- ---- events

settled_keeps : (s y : State) (n : ℕ) → KeepsLinks y → KeepsLinks (record (settled s y) { spent = n })
unfolding settled
settled_keeps s y n keeps = record { ends = keeps.ends; links = keeps.links; order = keeps.order; will = keeps.will }

counted_keeps : (s y : State) (n : ℕ) → KeepsLinks y → KeepsLinks (record (settled s y) { steps = n })
unfolding settled
counted_keeps s y n keeps = record { ends = keeps.ends; links = keeps.links; order = keeps.order; will = keeps.will }

-- an event that spends a credit
paid_keeps : (s t : State) (r : State × Turn) (x : Turn) → Comes r → paid s r ≡ Some (t, x) → KeepsLinks t
paid_keeps s t r x comes e = by_credit (nat_lt s.spent s.credits) e where
  made_of : State × Turn
  made_of = (record (settled s r.0) { spent = s.spent + 1 }, r.1)

  by_credit : (b : Bool) → cond {A = Option (State × Turn)} b (Some made_of) None ≡ Some (t, x) → KeepsLinks t
  by_credit false f = absurd cc
  by_credit true f =
      let same : made_of ≡ (t, x) = ap (λ (o : Option (State × Turn)). option_map_or (λ (z : State × Turn). z) o made_of) f in
      subst (λ (z : State × Turn). KeepsLinks z.0) same (settled_keeps s r.0 (s.spent + 1) comes.keeps)

-- the first step of a change is taken from what stands in front, or else from the script
going_first : (s : State) (k : Change) (m : Micro) (front left rest : List Micro) → KeepsLinks s → AllLink s.defs (front ++ left) → k.front ≡ front → k.left ≡ left
    → front ++ left ≡ m ∷ rest → Going s (taken k) × (links_possible s.defs m ≡ true)
going_first s k m [] left rest keeps all is_front is_left first =
    let test : List Micro → Bool = list_all (links_possible s.defs) in
    let whole : AllLink s.defs (m ∷ rest) = ap test (sym first) ∙ all in (
      record {
        ends = keeps.ends;
        tied = (keeps.links, keeps.order);
        front = ap (λ (ms : List Micro). test (rest_of ms)) is_front;
        left = ap (λ (ms : List Micro). test (left_behind ms k.left)) is_front ∙ ap (λ (ms : List Micro). test (rest_of ms)) (is_left ∙ first) ∙ both_right (links_possible s.defs m) (test rest) whole;
      },
      both_left (links_possible s.defs m) (test rest) whole,
    )
going_first s k m (n ∷ front) left rest keeps all is_front is_left first =
    let test : List Micro → Bool = list_all (links_possible s.defs) in
    let behind : AllLink s.defs (front ++ left) = both_right (links_possible s.defs n) (test (front ++ left)) all in
    let same : n ≡ m = cc in (
      record {
        ends = keeps.ends;
        tied = (keeps.links, keeps.order);
        front = ap (λ (ms : List Micro). test (rest_of ms)) is_front ∙ link_front s.defs front left behind;
        left = ap (λ (ms : List Micro). test (left_behind ms k.left)) is_front ∙ ap test is_left ∙ link_left s.defs front left behind;
      },
      ap (links_possible s.defs) (sym same) ∙ both_left (links_possible s.defs n) (test (front ++ left)) all,
    )

-- a step
step_event : (s t : State) (k : Change) (d : ℕ) (m : Micro) (answer : Option Bool) (x : Turn) → KeepsLinks s → s.change ≡ Some k → next s d (event.Step m answer) ≡ Some (t, x) → KeepsLinks t
step_event s t k d m answer x keeps at e =
    let is = step_defined s t k d m answer x at e in
    let first = comes_first m (todo k) is.0 in
    let will : AllLink s.defs (todo k) = subst (λ (o : Option Change). WillBePossible s.defs o) at keeps.will in
    let goes = going_first s k m k.front k.left first.0 keeps will refl refl first.1 in
    subst (λ (z : State × Turn). KeepsLinks z.0) is.1 (counted_keeps s (stepped s (taken k) answer m).0 (s.steps + 1) (step_keeps s (taken k) answer m goes.0 goes.1))

pub events_keep_links : EventsKeepLinks
unfolding next
events_keep_links s t d (event.Enable n) x keeps e = paid_keeps s t _ x (comes_enable s d n keeps) e
events_keep_links s t d (event.Disable n) x keeps e = paid_keeps s t _ x (comes_disable s d n keeps) e
events_keep_links s t d (event.Running n) x keeps e = paid_keeps s t _ x (comes_running s d n keeps) e
events_keep_links s t d (event.Begin what) x keeps e = by_quiet (is_quiet s.change) e where
  by_quiet : (q : Bool) → cond {A = Option (State × Turn)} q (paid s (begun s d what)) None ≡ Some (t, x) → KeepsLinks t
  by_quiet false f = absurd cc
  by_quiet true f = paid_keeps s t (begun s d what) x (comes_call s d what keeps) f
events_keep_links s t d (event.Step m answer) x keeps e = by_change s.change refl where
  by_change : (o : Option Change) → s.change ≡ o → KeepsLinks t
  by_change None at = absurd (no_step s t d m answer x at e)
  by_change (Some k) at = step_event s t k d m answer x keeps at e

-- ---- runs

none_linked : (n c p : ℕ) → link_in (replicate n unregistered_row) c ≡ Some p → ⊥
none_linked zero c p e = cc
none_linked (suc n) zero p e = cc
none_linked (suc n) (suc c) p e = none_linked n c p e

replay_keeps : (es : List Entry) (s : State) → KeepsLinks s → KeepsLinks (replay s es)
replay_keeps [] s keeps = keeps
replay_keeps (e ∷ es) s keeps = replay_keeps es (option_map_or (λ x. x.0) (next s e.driver e.event) s) (after (next s e.driver e.event) refl) where
  after : (o : Option (State × Turn)) → next s e.driver e.event ≡ o → KeepsLinks (option_map_or (λ x. x.0) o s)
  after None at = keeps
  after (Some r) at = events_keep_links s r.0 e.driver e.event r.1 keeps at

pub runs_keep_links : RunsKeepLinks
runs_keep_links words defs regs ignore_unused credits journal valid =
    replay_keeps journal (opening defs regs ignore_unused credits)
    (record { ends = lines_end words defs valid; links = λ c p e. absurd (none_linked (length defs) c p e); order = record { once = refl; linked = λ c p e. absurd (none_linked (length defs) c p e) }; will = tt })

replay_shape : (es : List Entry) (s : State) → HasShapeOf s (replay s es)
replay_shape [] s = record { defs = refl; rows = refl; words = refl }
replay_shape (e ∷ es) s =
    let first = after (next s e.driver e.event) refl in
    let rest = replay_shape es (option_map_or (λ x. x.0) (next s e.driver e.event) s) in
    record { defs = rest.defs ∙ first.defs; rows = rest.rows ∙ first.rows; words = rest.words ∙ first.words } where
      after : (o : Option (State × Turn)) → next s e.driver e.event ≡ o → HasShapeOf s (option_map_or (λ x. x.0) o s)
      after None at = record { defs = refl; rows = refl; words = refl }
      after (Some r) at = events_keep_shape s r.0 e.driver e.event r.1 at

-- behind each journal the tree is wired
pub runs_are_wired : RunsAreWired
runs_are_wired defs regs ignore_unused credits journal valid =
    let s : State = opening defs regs ignore_unused credits in
    let shape = replay_shape journal s in
    let keeps = runs_keep_links (length regs) defs regs ignore_unused credits journal valid in
    record {
      same = shape.defs;
      size = shape.words;
      wired = record {
        valid = subst (λ (ds : Description). IsValid (length regs) ds) (sym shape.defs) valid;
        rows = shape.rows ∙ length-replicate (length defs) unregistered_row ∙ sym (ap (λ (ds : Description). length ds) shape.defs);
        links = keeps.links;
      };
      order = keeps.order;
    }
