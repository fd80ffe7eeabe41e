-- Laws on journals that get one entry more.
use Rattle.std.proofs.Common.{◌≡◌, List, [], ◌∷◌, ◌++◌, Option, Some, sym, ap, ◌∙◌}
use Rattle.std.specs.Option.{option_map_or}
use Rattle.clk_base.specs.declared.event.Turn.{Turn}
use Rattle.clk_base.specs.declared.event.Entry.{Entry}
use Rattle.clk_model.specs.State.{State}
use Rattle.clk_model.specs.Machine.{next}
use Rattle.clk_model.specs.Journal.{slotless, replay, Legal}

-- the state after one entry more
pub replay-append : (s t : State) (turn : Turn) (journal : List Entry) (e : Entry) → next (replay s journal) e.driver e.event ≡ Some (t, turn)
    → replay s (journal ++ e ∷ []) ≡ t
replay-append s t turn [] e step = ap (λ (o : Option (State × Turn)). option_map_or (λ x. x.0) o s) step
replay-append s t turn (f ∷ journal) e step = replay-append (option_map_or (λ x. x.0) (next s f.driver f.event) s) t turn journal e step

-- a legal journal with an entry more that answers the machine's turn
pub Legal-append : (s t : State) (journal : List Entry) (e : Entry) → Legal s journal → next (replay s journal) e.driver e.event ≡ Some (t, slotless e.turn)
    → Legal s (journal ++ e ∷ [])
Legal-append s t [] e legal step = (t, step, tt)
Legal-append s t (f ∷ journal) e legal step =
    let after : option_map_or (λ x. x.0) (next s f.driver f.event) s ≡ legal.0 = ap (λ (o : Option (State × Turn)). option_map_or (λ x. x.0) o s) legal.1 in
    (legal.0, legal.1, Legal-append legal.0 t journal e legal.2 (ap (λ (u : State). next (replay u journal) e.driver e.event) (sym after) ∙ step))
