-- What is known of a line that says a clock: its name is a clock's name and no one's, and it has as many parents as its kind can have.
use Rattle.std.proofs.Common.{◌≡◌, ℕ, ◌<◌, ◌≤◌, Bool, true, false, not, List, [], ◌∷◌, length, take, drop, Option, Some, None, refl, ap, sym, subst, arith}
use Rattle.std.specs.Prelude.{Result, Ok, Err, codes, nat_lt, nat_le, slice_index_or, if◌then◌else◌}
use Rattle.std.specs.Option.{option_and_then}
use Rattle.std.specs.Str.{bytes_eq}
use Rattle.std.proofs.lemmas.Bool.{leb-true, lt-ltb, ltb-false}
use Rattle.std.proofs.lemmas.List.{length-take-le}
use Rattle.std.proofs.lemmas.Option.{none-some, same_Some}
use Rattle.clk_base.specs.declared.clock.Kind.{Kind}
use Rattle.clk_base.specs.declared.clock.Kind.TheVariants.{FixedRate, Factor, Gate, Mux, Divider, Pll}
use Rattle.clk_base.specs.Valid.{can_have_parents}
use Rattle.bundle_text.specs.Names.{is_clock_name}
use Rattle.bundle_text.specs.Numbers.{number_within, written_up_to}
use Rattle.bundle_text.specs.declared.reason.Reason.{Reason}
use Rattle.bundle_text.specs.declared.reason.Reason.TheVariants.{UnknownKind, BadWords, BadName, TwiceNamed, BadNumber, BadFlag}
use Rattle.bundle_text.proofs.Results.{ok_same}
use Rattle.clock_lines.specs.declared.field.Field.{Field}
use Rattle.clock_lines.specs.Said.{SaidClock}
use Rattle.clock_lines.specs.FlagWords.{are_flags, flags_of_words, are_known}
use Rattle.clock_lines.specs.Kinds.{most_rate, most_number, ◌>>=◌, number, field_said, fixed_kind, factor_kind, gate_kind, mux_kind, divider_kind, pll_kind}
use Rattle.clock_lines.specs.ClockLines.{with_flags, clock_said, fixed_line, factor_line, gate_line, mux_rest, mux_counted, mux_line, divider_line, pll_line, clock_line, known_line}

-- the name wasn't taken, it is the clock's and is one of a clock, and the parents are as many as the kind can have
pub record IsFine (taken : Bool) (name : List ℕ) (said : SaidClock) : Type 0 where
  pub fresh : taken ≡ false
  pub name_is : said.name ≡ name
  pub named : is_clock_name said.name ≡ true
  pub parents : can_have_parents said.kind (length said.parents) ≡ true

err_ok : {T E : Type 0} (e : E) (c : T) (r : Result T E) → r ≡ Err e → r ≡ Ok c → ⊥
err_ok e c r h k = cc

-- ## Tests in front of a result

if_err : {T E : Type 0} (b : Bool) (e : E) (r : Result T E) (c : T) → (if b then Err e else r) ≡ Ok c → (b ≡ false) × (r ≡ Ok c)
if_err true e r c h = absurd (err_ok e c _ refl h)
if_err false e r c h = (refl, h)

if_ok : {T E : Type 0} (b : Bool) (e : E) (r : Result T E) (c : T) → (if b then r else Err e) ≡ Ok c → r ≡ Ok c
if_ok true e r c h = h
if_ok false e r c h = absurd (err_ok e c _ refl h)

if_either : {T E : Type 0} (P : Type 0) (b : Bool) (r s : Result T E) (c : T) → (if b then r else s) ≡ Ok c → (r ≡ Ok c → P) → (s ≡ Ok c → P) → P
if_either P true r s c h first second = first h
if_either P false r s c h first second = second h

-- a test whose contrary fails
passed : (b : Bool) → not b ≡ false → b ≡ true
passed true h = refl
passed false h = absurd (cc)

-- ## The kinds

some_holds : {B : Type 0} (P : B → Type 0) (x b : B) → Some x ≡ Some b → P x → P b
some_holds P x b h p = subst P (same_Some x b h) p

-- the kind can have so many parents
abbrev CanHave : ℕ → Kind → Type 0
CanHave n k = can_have_parents k n ≡ true

fixed_from : (rate : Option ℕ) (k : Kind) → (rate >>= (λ r. Some (FixedRate r))) ≡ Some k → CanHave 0 k
fixed_from None k h = absurd (none-some k h)
fixed_from (Some r) k h = some_holds (CanHave 0) (FixedRate r) k h refl

fixed-parents : (rate : List ℕ) (k : Kind) → fixed_kind rate ≡ Some k → CanHave 0 k
unfolding fixed_kind
fixed-parents rate k h = fixed_from (number_within 0 most_rate rate) k h

factor_from : (mult div : Option ℕ) (k : Kind) → (mult >>= (λ m. div >>= (λ d. Some (Factor m d)))) ≡ Some k → CanHave 1 k
factor_from (Some m) (Some d) k h = some_holds (CanHave 1) (Factor m d) k h refl
factor_from _ _ k h = absurd (none-some k h)

factor-parents : (mult div : List ℕ) (k : Kind) → factor_kind mult div ≡ Some k → CanHave 1 k
unfolding factor_kind
factor-parents mult div k h = factor_from (number_within 1 most_number mult) (number_within 1 most_number div) k h

gate_from : (word bit : Option ℕ) (disable : Bool) (k : Kind) → (word >>= (λ w. bit >>= (λ b. Some (Gate w b disable)))) ≡ Some k → CanHave 1 k
gate_from (Some w) (Some b) disable k h = some_holds (CanHave 1) (Gate w b disable) k h refl
gate_from _ _ disable k h = absurd (none-some k h)

gate-parents : (word bit : List ℕ) (flags : List (List ℕ)) (k : Kind) → gate_kind word bit flags ≡ Some k → CanHave 1 k
unfolding gate_kind
gate-parents word bit flags k h = gate_from (number word) (number bit) _ k h

mux_from : (field : Option Field) (only : Bool) (n : ℕ) (k : Kind) → 0 < n → (field >>= (λ f. Some (Mux f.word f.shift f.width only))) ≡ Some k → CanHave n k
mux_from None only n k some h = absurd (none-some k h)
mux_from (Some f) only n k some h = some_holds (CanHave n) (Mux f.word f.shift f.width only) k h (lt-ltb 0 n some)

mux-parents : (word shift width : List ℕ) (flags : List (List ℕ)) (n : ℕ) (k : Kind) → 0 < n → mux_kind word shift width flags ≡ Some k → CanHave n k
unfolding mux_kind
mux-parents word shift width flags n k some h = mux_from (field_said word shift width) _ n k some h

divider_from : (field : Option Field) (one two : Bool) (k : Kind) → (field >>= (λ f. Some (Divider f.word f.shift f.width one two))) ≡ Some k → CanHave 1 k
divider_from None one two k h = absurd (none-some k h)
divider_from (Some f) one two k h = some_holds (CanHave 1) (Divider f.word f.shift f.width one two) k h refl

divider-parents : (word shift width : List ℕ) (flags : List (List ℕ)) (k : Kind) → divider_kind word shift width flags ≡ Some k → CanHave 1 k
unfolding divider_kind
divider-parents word shift width flags k h = divider_from (field_said word shift width) _ _ k h

pll_from : (field : Option Field) (pword pbit nmin nmax over : Option ℕ) (k : Kind)
    → (field >>= (λ f. pword >>= (λ w. pbit >>= (λ b. nmin >>= (λ least. nmax >>= (λ most. over >>= (λ m. Some (Pll f.word f.shift f.width w b least most m)))))))) ≡ Some k → CanHave 1 k
pll_from (Some f) (Some w) (Some b) (Some least) (Some most) (Some m) k h = some_holds (CanHave 1) (Pll f.word f.shift f.width w b least most m) k h refl
pll_from _ _ _ _ _ _ k h = absurd (none-some k h)

pll-parents : (field : Option Field) (pword pbit nmin nmax m : List ℕ) (k : Kind) → pll_kind field pword pbit nmin nmax m ≡ Some k → CanHave 1 k
unfolding pll_kind
pll-parents field pword pbit nmin nmax m k h = pll_from field (number pword) (number pbit) (number nmin) (number nmax) (number m) k h

-- ## The lines

with_flags-fine : (taken : Bool) (name : List ℕ) (kind : Option Kind) (parents flags : List (List ℕ)) (c : SaidClock) → taken ≡ false → is_clock_name name ≡ true
    → with_flags name kind parents flags ≡ Ok c → ((k : Kind) → kind ≡ Some k → CanHave (length parents) k) → IsFine taken name c
unfolding with_flags
with_flags-fine taken name None parents flags c fresh named h each = absurd (err_ok BadNumber c _ refl h)
with_flags-fine taken name (Some k) parents flags c fresh named h each =
    let made : SaidClock = record { name = name; kind = k; flags = flags_of_words flags; parents = parents } in
    let same : made ≡ c = ok_same made c _ refl (if_ok (are_flags k flags) BadFlag (Ok made) c h) in
    record {
      fresh = fresh;
      name_is = ap (λ (x : SaidClock). x.name) (sym same);
      named = subst (λ (x : SaidClock). is_clock_name x.name ≡ true) same named;
      parents = subst (λ (x : SaidClock). can_have_parents x.kind (length x.parents) ≡ true) same (each k refl);
    }

clock_said-fine : (taken : Bool) (name : List ℕ) (kind : Option Kind) (parents flags : List (List ℕ)) (c : SaidClock) → clock_said taken name kind parents flags ≡ Ok c
    → ((k : Kind) → kind ≡ Some k → CanHave (length parents) k) → IsFine taken name c
unfolding clock_said
clock_said-fine taken name kind parents flags c h each =
    let named = if_err (not (is_clock_name name)) BadName _ c h in
    let fresh = if_err taken TwiceNamed (with_flags name kind parents flags) c named.1 in
    with_flags-fine taken name kind parents flags c fresh.0 (passed (is_clock_name name) named.0) fresh.1 each

-- the name of a line is its first word behind its kind
abbrev FineLine : Bool → List (List ℕ) → SaidClock → Type 0
FineLine taken rest c = IsFine taken (slice_index_or rest 0 []) c

fixed-fine : (taken : Bool) (rest : List (List ℕ)) (c : SaidClock) → fixed_line taken rest ≡ Ok c → FineLine taken rest c
unfolding fixed_line
fixed-fine taken (name ∷ rate ∷ flags) c h = clock_said-fine taken name (fixed_kind rate) [] flags c h (fixed-parents rate)
fixed-fine taken _ c h = absurd (err_ok BadWords c _ refl h)

factor-fine : (taken : Bool) (rest : List (List ℕ)) (c : SaidClock) → factor_line taken rest ≡ Ok c → FineLine taken rest c
unfolding factor_line
factor-fine taken (name ∷ parent ∷ mult ∷ div ∷ flags) c h = clock_said-fine taken name (factor_kind mult div) (parent ∷ []) flags c h (factor-parents mult div)
factor-fine taken _ c h = absurd (err_ok BadWords c _ refl h)

gate-fine : (taken : Bool) (rest : List (List ℕ)) (c : SaidClock) → gate_line taken rest ≡ Ok c → FineLine taken rest c
unfolding gate_line
gate-fine taken (name ∷ parent ∷ word ∷ bit ∷ flags) c h = clock_said-fine taken name (gate_kind word bit flags) (parent ∷ []) flags c h (gate-parents word bit flags)
gate-fine taken _ c h = absurd (err_ok BadWords c _ refl h)

divider-fine : (taken : Bool) (rest : List (List ℕ)) (c : SaidClock) → divider_line taken rest ≡ Ok c → FineLine taken rest c
unfolding divider_line
divider-fine taken (name ∷ parent ∷ word ∷ shift ∷ width ∷ flags) c h =
    clock_said-fine taken name (divider_kind word shift width flags) (parent ∷ []) flags c h (divider-parents word shift width flags)
divider-fine taken _ c h = absurd (err_ok BadWords c _ refl h)

pll-fine : (taken : Bool) (rest : List (List ℕ)) (c : SaidClock) → pll_line taken rest ≡ Ok c → FineLine taken rest c
unfolding pll_line
pll-fine taken (name ∷ parent ∷ word ∷ shift ∷ width ∷ pword ∷ pbit ∷ nmin ∷ nmax ∷ m ∷ flags) c h =
    clock_said-fine taken name (pll_kind (field_said word shift width) pword pbit nmin nmax m) (parent ∷ []) flags c h (pll-parents (field_said word shift width) pword pbit nmin nmax m)
pll-fine taken _ c h = absurd (err_ok BadWords c _ refl h)

-- a COUNT that can be read isn't 0
at_least : (least : ℕ) (o : Option ℕ) (n : ℕ) → option_and_then (λ k. if nat_le least k then Some k else None) o ≡ Some n → least ≤ n
at_least least None n h = absurd (none-some n h)
at_least least (Some k) n h =
    elim (nat_le least k) as (λ b. nat_le least k ≡ b → (if b then Some k else None) ≡ Some n → least ≤ n) [
      | true ↦ λ e made. subst (λ x. least ≤ x) (same_Some k n made) (leb-true least k e)
      | false ↦ λ e made. absurd (none-some n made)
    ] refl h

within-least : (least most : ℕ) (word : List ℕ) (n : ℕ) → number_within least most word ≡ Some n → least ≤ n
unfolding number_within
within-least least most word n h = at_least least (written_up_to most word) n h

mux_rest-fine : (taken : Bool) (name word shift width : List ℕ) (count : ℕ) (rest : List (List ℕ)) (c : SaidClock) → 0 < count
    → mux_rest taken name word shift width count rest ≡ Ok c → IsFine taken name c
unfolding mux_rest
mux_rest-fine taken name word shift width count rest c some h =
    let enough = if_err (nat_lt (length rest) count) BadWords _ c h in
    let few : count ≤ length rest = ltb-false (length rest) count enough.0 in
    let all : length (take count rest) ≡ count = length-take-le count rest few in
    clock_said-fine taken name (mux_kind word shift width (drop count rest)) (take count rest) (drop count rest) c enough.1
    (λ k made. mux-parents word shift width (drop count rest) (length (take count rest)) k (omega arith) made)

mux_counted-fine : (taken : Bool) (name word shift width : List ℕ) (count : Option ℕ) (rest : List (List ℕ)) (c : SaidClock) → ((n : ℕ) → count ≡ Some n → 0 < n)
    → mux_counted taken name word shift width count rest ≡ Ok c → IsFine taken name c
unfolding mux_counted
mux_counted-fine taken name word shift width None rest c some h = clock_said-fine taken name None [] rest c h (λ k e. absurd (none-some k e))
mux_counted-fine taken name word shift width (Some n) rest c some h = mux_rest-fine taken name word shift width n rest c (some n refl) h

mux-fine : (taken : Bool) (rest : List (List ℕ)) (c : SaidClock) → mux_line taken rest ≡ Ok c → FineLine taken rest c
unfolding mux_line
mux-fine taken (name ∷ word ∷ shift ∷ width ∷ count ∷ rest) c h =
    mux_counted-fine taken name word shift width (number_within 1 64 count) rest c (λ n e. within-least 1 64 count n e) h
mux-fine taken _ c h = absurd (err_ok BadWords c _ refl h)

-- a line of any kind
pub line-fine : (taken : Bool) (words : List (List ℕ)) (c : SaidClock) → clock_line taken words ≡ Ok c → IsFine taken (slice_index_or words 1 []) c
unfolding clock_line
line-fine taken [] c h = absurd (err_ok UnknownKind c _ refl h)
line-fine taken (kind ∷ rest) c h =
    if_either _ (bytes_eq kind (codes "fixed")) _ _ c h (fixed-fine taken rest c)
    (λ h. if_either _ (bytes_eq kind (codes "factor")) _ _ c h (factor-fine taken rest c)
    (λ h. if_either _ (bytes_eq kind (codes "gate")) _ _ c h (gate-fine taken rest c)
    (λ h. if_either _ (bytes_eq kind (codes "mux")) _ _ c h (mux-fine taken rest c)
    (λ h. if_either _ (bytes_eq kind (codes "divider")) _ _ c h (divider-fine taken rest c)
    (λ h. if_either _ (bytes_eq kind (codes "pll")) _ _ c h (pll-fine taken rest c)
    (λ h. absurd (err_ok UnknownKind c _ refl h)))))))

-- a line that says a clock in a bundle of a version says it
pub known-said : (version : ℕ) (said : Result SaidClock Reason) (c : SaidClock) → known_line version said ≡ Ok c → said ≡ Ok c
unfolding known_line
known-said version (Err reason) c h = h
known-said version (Ok clock) c h = if_ok (are_known version clock.flags) BadFlag (Ok clock) c h
