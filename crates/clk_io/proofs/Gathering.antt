-- Texts that are gathered one after another, and written at the end: what stands in a sink after them.
use Rattle.std.proofs.Common.{◌≡◌, ℕ, List, [], ◌++◌, Option, Result, Ok, Err, refl, sym, subst, ap, ◌∙◌, append_assoc}
use Rattle.std.proofs.lemmas.List.{append-nil}
use Rattle.std.specs.Io.KnownBytes.{Appends}
use Rattle.std.proofs.KnownBytes.{Appends-trans, Appends-nil}
use Rattle.clk_io.specs.Streams.{AppendsFront}
use Rattle.clk_io.specs.Prints.{Prints}
use Rattle.clk_io.specs.Gathers.{PassesOn, Gathers}
use Rattle.clk_io.proofs.Chains.{AppendsFront-after, AppendsFront-more, Prints-after}

-- what was gathered and passed on, with the next text behind it
behind : (sent before after done text : List ℕ) → sent ++ after ≡ before ++ done → sent ++ (after ++ text) ≡ before ++ (done ++ text)
behind sent before after done text kept = sym (append_assoc sent after text) ∙ ap (λ xs. xs ++ text) kept ∙ append_assoc before done text

-- no text passes nothing on
pub PassesOn-none : (a : Option (List ℕ)) (gathered : List ℕ) → PassesOn a a gathered gathered []
PassesOn-none a gathered = record { sent = []; written = Appends-nil a; kept = sym (append-nil gathered) }

-- one text and then the next are both together
pub PassesOn-after : (a b c : Option (List ℕ)) (before middle after done text : List ℕ)
    → PassesOn a b before middle done → PassesOn b c middle after text → PassesOn a c before after (done ++ text)
PassesOn-after a b c before middle after done text p q = record {
  sent = p.sent ++ q.sent;
  written = Appends-trans a b c p.sent q.sent p.written q.written;
  kept = append_assoc p.sent q.sent after ∙ ap (λ xs. p.sent ++ xs) q.kept ∙ behind p.sent before middle done text p.kept;
}

-- a front of the next text, behind all of what was gathered and passed on before
pub front_after : (a b c : Option (List ℕ)) (before middle done text : List ℕ)
    → PassesOn a b before middle done → AppendsFront b c (middle ++ text) → AppendsFront a c (before ++ (done ++ text))
front_after a b c before middle done text p h =
    subst (AppendsFront a c) (behind p.sent before middle done text p.kept) (AppendsFront-after a b c p.sent (middle ++ text) p.written h)

-- one text and then the next are both together, also where the next one meets a fault
pub Gathers-after : {T E : Type 0} (a b c : Option (List ℕ)) (before middle after done text : List ℕ) (r : Result T E)
    → PassesOn a b before middle done → Gathers b c middle after text r → Gathers a c before after (done ++ text) r
Gathers-after a b c before middle after done text (Ok x) p q = PassesOn-after a b c before middle after done text p q
Gathers-after a b c before middle after done text (Err e) p h = front_after a b c before middle done text p h

-- a front of the next text is a front of the whole, which goes on behind it
pub front_of_whole : (a b c : Option (List ℕ)) (before middle done text rest whole : List ℕ)
    → PassesOn a b before middle done → AppendsFront b c (middle ++ text) → whole ≡ done ++ (text ++ rest) → AppendsFront a c (before ++ whole)
front_of_whole a b c before middle done text rest whole p h e =
    let front : AppendsFront a c ((before ++ (done ++ text)) ++ rest) = AppendsFront-more a c (before ++ (done ++ text)) rest (front_after a b c before middle done text p h) in
    subst (AppendsFront a c) (append_assoc before (done ++ text) rest ∙ ap (λ xs. before ++ xs) (append_assoc done text rest ∙ sym e)) front

-- a text that was gathered from nothing is printed, once what is gathered has been written
pub Prints-finished : {T E : Type 0} (a b c : Option (List ℕ)) (gathered text : List ℕ) (r : Result T E)
    → PassesOn a b [] gathered text → Prints b c gathered r → Prints a c text r
Prints-finished a b c gathered text r p h =
    subst (λ xs. Prints a c xs r) p.kept (Prints-after a b c p.sent gathered r p.written h)
