use Rattle.std.proofs.Common.{◌≡◌, ◌∙◌, Some, sym, ap, map}
use Rattle.std.specs.Prelude.{slice_get}
use Rattle.std.specs.Option.{option_map}
use Rattle.dts_clocks.specs.Consumers.{SeenConsumer, seen_name}
use Rattle.drv_scripts.specs.Sections.{names_at}
use Rattle.drv_scripts.proofs.Looked.{get_there, consumer_none, consumer_some}
use Rattle.drv_scripts.proofs.driver_section.names_at.Goals as goal

pub returns-in_err-place : goal.returns-in_err-place
unfolding names_at
returns-in_err-place c =
    rw (c.from_residual.ensures, c.in-Some.is) (sym (ap (option_map (λ (own : SeenConsumer). Some own.names)) (consumer_none c.args.consumers.now c.in-Some.path.now (sym c.in_err-place.ensures))))

pub returns-in-Some-get : goal.returns-in-Some-get
unfolding names_at
returns-in-Some-get c =
    let found : slice_get c.args.consumers.now c.in_ok-place.place ≡ Some c.in-Some-get.consumer.now = get_there c.args.consumers.now c.in_ok-place.place c.in-Some-get.consumer.now c.in-Some-get.ensures.lookup.3.0 c.in-Some-get.ensures.lookup.1 in
    rw c.in-Some.is (ap (λ own. Some (Some (map seen_name own))) c.as_slice.ensures.value ∙ sym (ap (option_map (λ (own : SeenConsumer). Some own.names)) (consumer_some c.args.consumers.now c.in-Some.path.now c.in_ok-place.place c.in-Some-get.consumer.now (sym c.in_ok-place.ensures) found)))
