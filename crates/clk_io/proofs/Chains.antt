-- Printers called one after another: what stands in a sink after them.
use Rattle.std.proofs.Common.{◌≡◌, ℕ, ◌+◌, ◌≤◌, List, ◌++◌, length, take, Option, Result, Ok, Err, sym, subst, length-append, arith}
use Rattle.std.proofs.lemmas.List.{take-append-le}
use Rattle.std.proofs.Math.Seq.{take-append-add}
use Rattle.std.specs.Io.KnownBytes.{Appends}
use Rattle.std.proofs.KnownBytes.{Appends-trans, Appends-nil}
use Rattle.clk_io.specs.Streams.{AppendsFront}
use Rattle.clk_io.specs.Prints.{Prints}

-- nothing is a front of each text
pub AppendsFront-none : (a : Option (List ℕ)) (text : List ℕ) → AppendsFront a a text
AppendsFront-none a text = (0, omega arith, Appends-nil a)

-- a front of a text is a front of it with more behind it
pub AppendsFront-more : (a b : Option (List ℕ)) (text rest : List ℕ) → AppendsFront a b text → AppendsFront a b (text ++ rest)
AppendsFront-more a b text rest h =
    let n = h.0 in
    let within : n ≤ length text = h.1 in
    (n, rw length-append (omega arith), rw (take-append-le n text rest within) h.2)

-- a front of the next text, behind all of what was done
pub AppendsFront-after : (a b c : Option (List ℕ)) (done text : List ℕ) → Appends a b done → AppendsFront b c text → AppendsFront a c (done ++ text)
AppendsFront-after a b c done text p h =
    (length done + h.0, rw length-append (omega (arith, h.1)), rw take-append-add (Appends-trans a b c done (take h.0 text) p h.2))

-- a front of the next text, behind all of what was done, is a front of the whole
pub front_within : (a b c : Option (List ℕ)) (done text rest : List ℕ) → Appends a b done → AppendsFront b c text → AppendsFront a c (done ++ (text ++ rest))
front_within a b c done text rest p h =
    AppendsFront-after a b c done (text ++ rest) p (AppendsFront-more b c text rest h)

-- the same of a whole that is known by an equation
pub front_of : (a b c : Option (List ℕ)) (done text rest whole : List ℕ) → Appends a b done → AppendsFront b c text → whole ≡ done ++ (text ++ rest) → AppendsFront a c whole
front_of a b c done text rest whole p h e = subst (AppendsFront a c) (sym e) (front_within a b c done text rest p h)

-- one text and then the next are both together
pub Prints-after : {T E : Type 0} (a b c : Option (List ℕ)) (done text : List ℕ) (r : Result T E) → Appends a b done → Prints b c text r → Prints a c (done ++ text) r
Prints-after a b c done text (Ok x) p h = Appends-trans a b c done text p h
Prints-after a b c done text (Err e) p h = AppendsFront-after a b c done text p h
