-- The first step of what stands in front is the first that is left.
use Rattle.std.proofs.Common.{◌≡◌, ◌∙◌, true, false, refl, sym, subst}
use Rattle.clk_model.specs.Laws.Paced.{is_notice}
use Rattle.clk_flight.specs.Inside.{flight_of}
use Rattle.clk_flight.specs.Flights.{FlightState, IsChange}
use Rattle.clk_flight.proofs.ChangeLaws.{falls_first, posts_first, posted}
use Rattle.clk_flight.proofs.flight.Flight.next.Goals as goal

pub returns-in-Falls-clause-first : goal.returns-in-Falls-clause-first
returns-in-Falls-clause-first c = λ rows k tells is.
    c.fall_or_abort.ensures
    ∙ falls_first rows (flight_of c.self.inside) k c.in-Falls.told c.in-Falls.left c.in-Falls.is (subst (λ (f : FlightState). IsChange rows f k) (sym c.self.view_is) is)

pub returns-in-Posts-clause-first : goal.returns-in-Posts-clause-first
returns-in-Posts-clause-first c = λ rows k tells is.
    c.post.ensures _ (c.chain.ensures.told rows tells)
    ∙ posts_first rows (flight_of c.self.inside) k c.in-Posts.clock c.in-Posts.told c.in-Posts.left c.in-Posts.old c.in-Posts.new c.in-Posts.is
    (subst (λ (f : FlightState). IsChange rows f k) (sym c.self.view_is) is)

pub returns-in-Posts-clause-own : goal.returns-in-Posts-clause-own
returns-in-Posts-clause-own c = λ m is no fall.
    let yes_ : is_notice m ≡ true = posted c.in-Posts.clock c.in-Posts.old c.in-Posts.new _ m (sym (c.post.ensures _ refl) ∙ is) in
    let both : true ≡ false = sym yes_ ∙ no in
    absurd cc
