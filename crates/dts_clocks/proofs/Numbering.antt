-- The clocks that specifiers name, one clock more.
use Rattle.std.proofs.Common.{◌≡◌, ℕ, ◌+◌, ◌<◌, Bool, true, false, cond, nat_eq, List, [], ◌∷◌, ◌++◌, map, length, get_or, take, Option, Some, None, refl, sym, ap, ◌∙◌, arith}
use Rattle.std.specs.Prelude.{◌&&◌, ◌==◌}
use Rattle.std.specs.List.{position}
use Rattle.std.specs.Option.{option_map, option_map_or, option_or, option_eq}
use Rattle.std.proofs.lemmas.List.{map-append, length-map, get_or-map}
use Rattle.clk_base.specs.declared.clock.ClockId.{ClockId}
use Rattle.bundle_text.proofs.Mapped.{position-map}
use Rattle.dts_tree.specs.Tree.{SeenNode}
use Rattle.dts_bindings.specs.declared.bound.Binding.{Binding}
use Rattle.dts_bindings.specs.declared.bound.BoundClock.{BoundClock}
use Rattle.dts_bindings.specs.Binding.{seen_binding}
use Rattle.dts_bindings.specs.Clocks.{seen_clock}
use Rattle.dts_clocks.specs.declared.numbers.Head.{Head}
use Rattle.dts_clocks.specs.declared.reference.Specifier.{Specifier}
use Rattle.dts_clocks.specs.Clocks.{held_by, binding_at, clocks_at, clocks_of, names_clock, clock_id, clock_of, specifier}
use Rattle.dts_clocks.specs.Heads.{same_specifier, head_by, head_of, heads_by, names_head}
use Rattle.dts_clocks.specs.Joined.{joined, listed}
use Rattle.dts_clocks.proofs.Joins.{joined-more, joined-none, length-listed, get-listed}
use Rattle.dts_clocks.proofs.Places.{position_more}

-- a table of bindings, read at a place
pub bound_within : (nodes : List SeenNode) (n k : ℕ) (bs : List (Option Binding)) → map (option_map seen_binding) bs ≡ listed (binding_at nodes) n → k < n → k < length bs
bound_within nodes n k bs all low = omega (arith, ap length all, length-map bs (option_map seen_binding), length-listed (binding_at nodes) n)

pub bound_at : (nodes : List SeenNode) (n k : ℕ) (bs : List (Option Binding)) (d : Option Binding) → map (option_map seen_binding) bs ≡ listed (binding_at nodes) n → k < n → option_map seen_binding (get_or bs k d) ≡ binding_at nodes k
bound_at nodes n k bs d all low =
    sym (get_or-map (option_map seen_binding) bs k d (option_map seen_binding d) (bound_within nodes n k bs all low)) ∙ (ap (λ xs. get_or xs k (option_map seen_binding d)) all ∙ get-listed (binding_at nodes) n k (option_map seen_binding d) low)

heads_map : (k : ℕ) (cs : List BoundClock) → map (head_by k) cs ≡ map head_of (map (held_by k) (map seen_clock cs))
heads_map k [] = refl
heads_map k (c ∷ cs) = ap (λ hs. head_by k c ∷ hs) (heads_map k cs)

heads_bound : (k : ℕ) (o : Option Binding) → heads_by k o ≡ map head_of (option_map_or (λ b. map (held_by k) b.clocks) (option_map seen_binding o) [])
heads_bound k None = refl
heads_bound k (Some b) = heads_map k b.clocks.items

pub heads_more : (nodes : List SeenNode) (n k : ℕ) (bs : List (Option Binding)) (o : Option Binding) (old new : List Head) → map (option_map seen_binding) bs ≡ listed (binding_at nodes) n → k < n → o ≡ get_or bs k o
    → old ≡ map head_of (joined (clocks_at nodes) k) → new ≡ old ++ heads_by k o → new ≡ map head_of (joined (clocks_at nodes) (k + 1))
unfolding clocks_at
heads_more nodes n k bs o old new all low is so_far more =
    let bound : option_map seen_binding o ≡ binding_at nodes k = ap (option_map seen_binding) is ∙ bound_at nodes n k bs o all low in
    let here : heads_by k o ≡ map head_of (clocks_at nodes k) = heads_bound k o ∙ ap (λ p. map head_of (option_map_or (λ b. map (held_by k) b.clocks) p [])) bound in
    more ∙ (ap (λ hs. hs ++ heads_by k o) so_far ∙ (ap (λ hs. map head_of (joined (clocks_at nodes) k) ++ hs) here ∙ (sym (map-append head_of (joined (clocks_at nodes) k) (clocks_at nodes k)) ∙ ap (map head_of) (sym (joined-more (clocks_at nodes) k)))))

pub heads_none : (nodes : List SeenNode) (hs : List Head) → hs ≡ [] → hs ≡ map head_of (joined (clocks_at nodes) 0)
heads_none nodes hs none = none ∙ ap (map head_of) (sym (joined-none (clocks_at nodes)))

pub heads_all : (nodes : List SeenNode) (n : ℕ) (hs : List Head) → n ≡ length nodes → hs ≡ map head_of (joined (clocks_at nodes) n) → hs ≡ map head_of (clocks_of nodes)
unfolding clocks_of
heads_all nodes n hs all e = e ∙ ap (λ m. map head_of (joined (clocks_at nodes) m)) all

-- the two specifiers that may name a clock
two_keys : (same : Bool) (h : ℕ) (identifier : Option ℕ) (clock : ClockId) (old : Option ClockId)
    → option_or (option_or old (cond (same && option_eq nat_eq None identifier) (Some clock) None)) (cond (same && option_eq nat_eq (Some h) identifier) (Some clock) None)
    ≡ option_or old (cond (same && option_map_or (λ i. h == i) identifier true) (Some clock) None)
two_keys false h identifier clock None = refl
two_keys false h identifier clock (Some c) = refl
two_keys true h None clock None = refl
two_keys true h None clock (Some c) = refl
two_keys true h (Some i) clock None = refl
two_keys true h (Some i) clock (Some c) = refl

pub both_noted : (h : Head) (s : Specifier) (clock : ClockId) (old mid new : Option ClockId) → mid ≡ option_or old (cond (same_specifier (specifier h.node None) s) (Some clock) None)
    → new ≡ option_or mid (cond (same_specifier (specifier h.node (Some h.identifier)) s) (Some clock) None) → new ≡ option_or old (cond (names_head s h) (Some clock) None)
unfolding names_head
both_noted h s clock old mid new first second =
    second ∙ (ap (λ m. option_or m (cond (same_specifier (specifier h.node (Some h.identifier)) s) (Some clock) None)) first ∙ two_keys (h.node == s.node) h.identifier s.identifier clock old)

id_or : (a : Option ℕ) (b : Bool) (n : ℕ) → option_map clock_id (option_or a (cond b (Some n) None)) ≡ option_or (option_map clock_id a) (cond b (Some (clock_id n)) None)
id_or None true n = refl
id_or None false n = refl
id_or (Some a) true n = refl
id_or (Some a) false n = refl

pub number_more : (hs : List Head) (k : ℕ) (d : Head) (s : Specifier) (clock : ClockId) (old new : Option ClockId) → k < length hs → clock ≡ clock_id k → old ≡ option_map clock_id (position (names_head s) (take k hs))
    → new ≡ option_or old (cond (names_head s (get_or hs k d)) (Some clock) None) → new ≡ option_map clock_id (position (names_head s) (take (k + 1) hs))
number_more hs k d s clock old new low is so_far more =
    more ∙ (ap (λ o. option_or o (cond (names_head s (get_or hs k d)) (Some clock) None)) so_far ∙ (ap (λ c. option_or (option_map clock_id (position (names_head s) (take k hs))) (cond (names_head s (get_or hs k d)) (Some c) None)) is
    ∙ (sym (id_or (position (names_head s) (take k hs)) (names_head s (get_or hs k d)) k) ∙ ap (option_map clock_id) (sym (position_more (names_head s) hs k d low)))))

pub named_by_head : (nodes : List SeenNode) (hs : List Head) (s : Specifier) → hs ≡ map head_of (clocks_of nodes) → option_map clock_id (position (names_head s) hs) ≡ clock_of nodes s
unfolding clock_of names_head names_clock
named_by_head nodes hs s all = ap (λ xs. option_map clock_id (position (names_head s) xs)) all ∙ ap (option_map clock_id) (position-map (names_head s) head_of (clocks_of nodes))
