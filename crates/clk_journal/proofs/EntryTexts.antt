-- The words of an entry, apart and as a line, and the lines of a journal from a place on.
use Rattle.std.proofs.Common.{◌≡◌, ℕ, ◌+◌, ◌<◌, List, [], ◌∷◌, ◌++◌, length, drop, drop-cons, get_or, sym, ap, ◌∙◌, append_assoc, add-one, codes}
use Rattle.std.specs.Fmt.{decimal}
use Rattle.clk_base.specs.Description.{Description}
use Rattle.clk_base.specs.declared.event.Entry.{Entry}
use Rattle.clk_base.specs.declared.event.Event.{Event}
use Rattle.clk_base.specs.declared.event.Event.TheVariants as event
use Rattle.clk_base.specs.declared.event.Reply.{Reply}
use Rattle.clk_base.specs.declared.event.Reply.TheVariants as reply
use Rattle.clk_base.specs.declared.event.Turn.{Turn}
use Rattle.clk_base.specs.declared.event.Turn.TheVariants as turn
use Rattle.clk_model.specs.Text.{Word, spaced, event_words, turn_words, reply_words, entry_text, entries_from}

-- there is a word
abbrev HasWords : List Word → Type 0
HasWords [] = ⊥
HasWords (w ∷ ws) = Unit {0}

-- words in front of others, with a space between them
spaced_both : (us vs : List Word) → HasWords us → HasWords vs → spaced (us ++ vs) ≡ spaced us ++ (codes " " ++ spaced vs)
spaced_both [] vs some more = absurd some
spaced_both (u ∷ us) [] some more = absurd more
spaced_both (u ∷ []) (v ∷ vs) some more = append_assoc u (codes " ") (spaced (v ∷ vs))
spaced_both (u ∷ w ∷ us) (v ∷ vs) some more =
    ap (λ xs. (u ++ codes " ") ++ xs) (spaced_both (w ∷ us) (v ∷ vs) tt tt)
    ∙ sym (append_assoc (u ++ codes " ") (spaced (w ∷ us)) (codes " " ++ spaced (v ∷ vs)))

-- a word in front of others
spaced_behind : (w : Word) (vs : List Word) → HasWords vs → spaced (w ∷ vs) ≡ w ++ (codes " " ++ spaced vs)
spaced_behind w vs more = spaced_both (w ∷ []) vs tt more

event_has : (defs : Description) (e : Event) → HasWords (event_words defs e)
event_has defs (event.Enable number) = tt
event_has defs (event.Disable number) = tt
event_has defs (event.Running number) = tt
event_has defs (event.Begin what) = tt
event_has defs (event.Step m locked) = tt

reply_has : (defs : Description) (r : Reply) → HasWords (reply_words defs r)
reply_has defs reply.Fine = tt
reply_has defs reply.Warn = tt
reply_has defs reply.Yes = tt
reply_has defs reply.No = tt
reply_has defs (reply.Handle h) = tt
reply_has defs (reply.Rate r) = tt
reply_has defs (reply.Clock c) = tt
reply_has defs (reply.Refused e) = tt

turn_has : (defs : Description) (t : Turn) → HasWords (turn_words defs t)
turn_has defs turn.Going = tt
turn_has defs (turn.Done r) = reply_has defs r

-- an entry's line, from the pieces of its format
pub entry_text-pieces : (defs : Description) (names : List Word) (number : ℕ) (e : Entry) (driver : Word) → driver ≡ get_or names e.driver []
    → decimal number ++ (codes " " ++ (driver ++ (codes " " ++ (spaced (event_words defs e.event) ++ (codes " = " ++ (spaced (turn_words defs e.turn) ++ codes "\n"))))))
    ≡ entry_text defs names number e
entry_text-pieces defs names number e driver is =
    let event = event_words defs e.event in
    let turn = turn_words defs e.turn in
    let result : spaced (codes "=" ∷ turn) ≡ codes "= " ++ spaced turn = spaced_behind (codes "=") turn (turn_has defs e.turn) in
    let both = spaced_both event (codes "=" ∷ turn) (event_has defs e.event) tt in
    let driven = spaced_both (decimal number ∷ get_or names e.driver [] ∷ []) (event ++ codes "=" ∷ turn) tt (more event (codes "=") turn) in
    rw (driven, both, result, is) (simp append_assoc) where
      more : (us : List Word) (v : Word) (vs : List Word) → HasWords (us ++ v ∷ vs)
      more [] v vs = tt
      more (u ∷ us) v vs = tt

-- the line of the entry at this place, and the lines behind it
pub entries_at : (defs : Description) (names : List Word) (entries : List Entry) (k i : ℕ) (d : Entry) → i < length entries
    → entries_from defs names k (drop i entries) ≡ entry_text defs names k (get_or entries i d) ++ entries_from defs names (k + 1) (drop (i + 1) entries)
entries_at defs names entries k i d within = rw (drop-cons entries i d within, add-one i)
