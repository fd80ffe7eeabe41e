-- Consumers and their names, found by place.
use Rattle.std.proofs.Common.{◌≡◌, ℕ, zero, suc, ◌<◌, List, [], ◌∷◌, map, length, Some, None, ap, sym, ◌∙◌, arith}
use Rattle.std.specs.Prelude.{slice_get, slice_index_or, string_bytes}
use Rattle.std.specs.List.{position}
use Rattle.std.specs.Option.{option_and_then}
use Rattle.std.specs.Str.{bytes_eq}
use Rattle.std.proofs.lemmas.Option.{none-some, same_Some}
use Rattle.bundle_text.proofs.Mapped.{position-map}
use Rattle.dts_clocks.specs.declared.loaded.Consumer.{Consumer}
use Rattle.dts_clocks.specs.declared.loaded.ConsumerName.{ConsumerName}
use Rattle.dts_clocks.specs.Consumers.{SeenName, SeenConsumer, seen_name, seen_consumer}
use Rattle.drv_scripts.specs.Commands.{clock_of_name}
use Rattle.drv_scripts.specs.Sections.{consumer_at}

get_map : {X Y : Type 0} (f : X → Y) (xs : List X) (i : ℕ) (x : X) → slice_get xs i ≡ Some x → slice_get (map f xs) i ≡ Some (f x)
get_map f [] i x e = absurd (none-some x e)
get_map f (y ∷ ys) zero x e = ap (λ z. Some (f z)) (same_Some y x e)
get_map f (y ∷ ys) (suc i) x e = get_map f ys i x e

-- the element at a place of a list
pub get_there : {X : Type 0} (xs : List X) (i : ℕ) (x : X) → i < length xs → x ≡ slice_index_or xs i x → slice_get xs i ≡ Some x
get_there [] i x lt e = absurd (omega arith)
get_there (y ∷ ys) zero x lt e = ap (λ z. Some z) (sym e)
get_there (y ∷ ys) (suc i) x lt e = get_there ys i x (omega arith) e

-- no consumer has the path
pub consumer_none : (consumers : List Consumer) (path : List ℕ) → position (λ c. bytes_eq (string_bytes c.path) path) consumers ≡ None → consumer_at (map seen_consumer consumers) path ≡ None
consumer_none consumers path e =
    ap (option_and_then (slice_get (map seen_consumer consumers))) (position-map (λ (c : SeenConsumer). bytes_eq c.path path) seen_consumer consumers ∙ e)

-- this one is the first that has
pub consumer_some : (consumers : List Consumer) (path : List ℕ) (i : ℕ) (c : Consumer) → position (λ c. bytes_eq (string_bytes c.path) path) consumers ≡ Some i → slice_get consumers i ≡ Some c
    → consumer_at (map seen_consumer consumers) path ≡ Some (seen_consumer c)
consumer_some consumers path i c e g =
    ap (option_and_then (slice_get (map seen_consumer consumers))) (position-map (λ (c : SeenConsumer). bytes_eq c.path path) seen_consumer consumers ∙ e) ∙ get_map seen_consumer consumers i c g

-- no specifier has the name
pub name_none : (names : List ConsumerName) (name : List ℕ) → position (λ n. bytes_eq (string_bytes n.name) name) names ≡ None → clock_of_name (map seen_name names) name ≡ None
name_none names name e =
    ap (λ at. option_and_then (λ (n : SeenName). n.clock) (option_and_then (slice_get (map seen_name names)) at)) (position-map (λ (n : SeenName). bytes_eq n.name name) seen_name names ∙ e)

-- this one is the first that has
pub name_some : (names : List ConsumerName) (name : List ℕ) (i : ℕ) (n : ConsumerName) → position (λ n. bytes_eq (string_bytes n.name) name) names ≡ Some i → slice_get names i ≡ Some n
    → clock_of_name (map seen_name names) name ≡ n.clock
name_some names name i n e g =
    ap (λ at. option_and_then (λ (n : SeenName). n.clock) (option_and_then (slice_get (map seen_name names)) at)) (position-map (λ (n : SeenName). bytes_eq n.name name) seen_name names ∙ e)
    ∙ ap (option_and_then (λ (n : SeenName). n.clock)) (get_map seen_name names i n g)
