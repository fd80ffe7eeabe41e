-- What is found among the properties, and told of all values, seen.
use Rattle.std.proofs.Common.{◌≡◌, Bool, true, false, cond, Option, Some, None, List, [], ◌∷◌, map, filter, refl, sym, ap, ◌∙◌, inl, inr, ℕ, Bor}
use Rattle.std.specs.List.{find}
use Rattle.std.specs.Option.{option_map}
use Rattle.std.specs.Str.{bytes_eq}
use Rattle.std.specs.Prelude.{string_bytes, if◌then◌else◌}
use Rattle.std.proofs.lemmas.Bool.{cases_Bool, cond-true, cond-false}
use Rattle.std.proofs.lemmas.Slice.Eq.{bytes_eq-Decides}
use Rattle.dts_tree.specs.declared.tree.DtsProperty.{DtsProperty}
use Rattle.dts_tree.specs.Tree.{SeenProperty, SeenNode, seen_property}
use Rattle.dts_bindings.specs.Properties.{property_named}
use Rattle.dts_bindings.specs.Versions.{knows, known}

find-step : {X Y : Type 0} (f : X → Y) (b : Bool) (x : X) (a : Option X) (c : Option Y) → option_map f a ≡ c → option_map f (if b then Some x else a) ≡ (if b then Some (f x) else c)
find-step f true x a c e = refl
find-step f false x a c e = e

-- what is found among the images is the image of what is found
pub find-map : {X Y : Type 0} (p : Y → Bool) (f : X → Y) (xs : List X) → option_map f (find (λ x. p (f x)) xs) ≡ find p (map f xs)
find-map p f [] = refl
find-map p f (x ∷ xs) = find-step f (p (f x)) x (find (λ y. p (f y)) xs) (find p (map f xs)) (find-map p f xs)

behind : {X Y : Type 0} (f : X → Y) (o : Option (Bor X)) → option_map (λ p. f p.now) o ≡ option_map f (option_map (λ p. p.now) o)
behind f None = refl
behind f (Some p) = refl

-- the property that is found, seen
pub found_seen : (o : Option (Bor DtsProperty)) (ps : List DtsProperty) (name : List ℕ) → option_map (λ p. p.now) o ≡ find (λ p. bytes_eq (string_bytes p.name) name) ps
    → option_map (λ p. seen_property p.now) o ≡ find (λ p. bytes_eq p.name name) (map seen_property ps)
found_seen o ps name e = behind seen_property o ∙ (ap (option_map seen_property) e ∙ find-map (λ p. bytes_eq p.name name) seen_property ps)

-- ## Properties that a version knows

-- the first of what is kept passes the test
kept : {X : Type 0} (test : X → Bool) (b : Bool) (x : X) (xs : List X) (o : Option X) → test x ≡ true → find test xs ≡ cond b o None → find test (cond b (x ∷ xs) xs) ≡ cond b (Some x) None
kept test true x xs o here e = cond-true _ _ _ here
kept test false x xs o here e = e

-- it fails the test, kept or not
past : {X : Type 0} (test : X → Bool) (q : Bool) (x : X) (xs : List X) (o : Option X) → test x ≡ false → find test xs ≡ o → find test (cond q (x ∷ xs) xs) ≡ o
past test true x xs o other e = cond-false _ _ _ other ∙ e
past test false x xs o other e = e

none_or : {X : Type 0} (b : Bool) (o : Option X) → o ≡ None → o ≡ cond b o None
none_or true o h = refl
none_or false o h = h

-- a filter that answers b wherever the test passes keeps all that the test finds, or loses it
find-filter : {X : Type 0} (test p : X → Bool) (b : Bool) → ((x : X) → test x ≡ true → p x ≡ b) → (xs : List X) → find test (filter p xs) ≡ cond b (find test xs) None
find-filter test p b same [] = none_or b None refl
find-filter test p b same (x ∷ xs) =
    let rest = find-filter test p b same xs in
    elim (cases_Bool (test x)) [
      | inl here ↦
          ap (λ q. find test (cond q (x ∷ filter p xs) (filter p xs))) (same x here)
          ∙ (kept test b x (filter p xs) (find test xs) here rest ∙ ap (λ t. cond b (cond t (Some x) (find test xs)) None) (sym here))
      | inr other ↦
          past test (p x) x (filter p xs) (cond b (find test xs) None) other rest ∙ ap (λ t. cond b (cond t (Some x) (find test xs)) None) (sym other)
    ]

-- the property of a name is there if the version knows the name
property-known : (version : ℕ) (name : List ℕ) (node : SeenNode) → property_named name (known version node) ≡ cond (knows version name) (property_named name node) None
unfolding property_named known
property-known version name node =
    find-filter (λ (p : SeenProperty). bytes_eq p.name name) (λ p. knows version p.name) (knows version name) (λ p e. ap (knows version) ((bytes_eq-Decides p.name name).0 e)) node.properties

pub known_property : (version : ℕ) (name : List ℕ) (node : SeenNode) → knows version name ≡ true → property_named name (known version node) ≡ property_named name node
known_property version name node h = property-known version name node ∙ cond-true _ _ _ h

pub unknown_property : (version : ℕ) (name : List ℕ) (node : SeenNode) → knows version name ≡ false → property_named name (known version node) ≡ None
unknown_property version name node h = property-known version name node ∙ cond-false _ _ _ h
