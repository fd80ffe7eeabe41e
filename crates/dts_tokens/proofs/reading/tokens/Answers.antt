use Rattle.std.proofs.Common.{◌≡◌, ◌∙◌, [], length, map, length-drop, ap, sym, subst, arith}
use Rattle.std.proofs.lemmas.List.{take_rest}
use Rattle.dts_tokens.specs.Pieces.{piece_at}
use Rattle.std.proofs.lemmas.List.Elements.{All-nil}
use Rattle.dts_tokens.specs.Tokens.{Cuts, IsWhole, text_of}
use Rattle.dts_tokens.proofs.Cutting.{Reached-gap, Reached-lexeme, Reached-wrong, Reached-big}
use Rattle.dts_tokens.proofs.Wholes.{Cuts-whole}
use Rattle.dts_tokens.proofs.reading.tokens.Goals as goal
use Rattle.dts_tokens.proofs.reading.tokens.Goals.{in-Gap, in-Lexeme+else-is_too_big+in_ok-push-in-Lexeme}

pub returns-then-is_too_big-clause-fault : goal.returns-then-is_too_big-clause-fault
returns-then-is_too_big-clause-fault c =
    let text = c.as_bytes-bytes.result.now in
    let here = ap piece_at (sym (take_rest text c.loop-at.at)) ∙ sym c.in-Lexeme.ensures.piece in
    let weighs = simp take_rest at (c.is_too_big.ensures (map (text_of text) c.loop-at.found.items) c.loop-at.invariant.scope) in
    rw (← c.as_bytes-bytes.ensures.value) (Reached-big text c.loop-at.found.items c.loop-at.scope c.loop-at.at c.loop-at.line c.in-Lexeme.len c.fault_on.result c.loop-at.invariant (omega arith) here (sym weighs ∙ c.if-is_too_big.true) c.fault_on.ensures)

pub returns-in-Wrong-clause-fault : goal.returns-in-Wrong-clause-fault
returns-in-Wrong-clause-fault c =
    let text = c.as_bytes-bytes.result.now in
    let here = ap piece_at (sym (take_rest text c.loop-at.at)) ∙ sym c.in-Wrong.ensures.piece in
    rw (← c.as_bytes-bytes.ensures.value) (Reached-wrong text c.loop-at.found.items c.loop-at.scope c.loop-at.at c.loop-at.line c.in-Wrong.flaw c.fault_on-in-Wrong.result c.loop-at.invariant (omega arith) here c.fault_on-in-Wrong.ensures)

pub loop-at-preserved : goal.loop-at-preserved
loop-at-preserved c =
    let text = c.as_bytes-bytes.result.now in
    let at = c.loop-at.at in
    elim c.match-piece_at.branch [
      | in-Gap w ↦
          let here = ap piece_at (sym (take_rest text at)) ∙ sym w.in-Gap.ensures.piece in
          let fed = simp (take_rest, w.len-is) at c.line_feeds-feeds.ensures.count in
          let fits = simp (take_rest, length-drop) at w.in-Gap.ensures.fits.1 in
          simp (w.found-is, w.scope-is, w.len-is) (Reached-gap text c.loop-at.found.items c.loop-at.scope at c.loop-at.line w.in-Gap.len c.line_feeds-feeds.result c.loop-at.invariant (omega arith) (omega (arith, fits)) here fed)
      | in-Lexeme+else-is_too_big+in_ok-push-in-Lexeme w ↦
          let words = map (text_of text) c.loop-at.found.items in
          let here = ap piece_at (sym (take_rest text at)) ∙ sym w.in-Lexeme.ensures.piece in
          let fed = simp (take_rest, w.len-is) at c.line_feeds-feeds.ensures.count in
          let fits = simp (take_rest, length-drop) at w.in-Lexeme.ensures.fits.1 in
          let weighs = simp take_rest at (w.is_too_big.ensures words c.loop-at.invariant.scope) in
          let passed = simp take_rest at (w.pass.ensures words c.loop-at.invariant.scope) in
          simp (w.found-is, w.scope-is, w.len-is, w.in_ok-push-in-Lexeme.ensures.items) (Reached-lexeme text c.loop-at.found.items c.loop-at.scope w.pass.new.self at c.loop-at.line w.in-Lexeme.len c.line_feeds-feeds.result c.loop-at.invariant (omega arith) w.in-Lexeme.ensures.fits.0 (omega (arith, fits)) here (sym weighs ∙ w.if-is_too_big.false) passed fed)
    ]

pub returns-clause-whole : goal.returns-clause-whole
returns-clause-whole c =
    let text = c.args.text.now in
    let found = c.loop-at.found.items in
    let reached = rw c.as_bytes-bytes.ensures.value at c.loop-at.invariant.cut in
    let end : c.loop-at.at ≡ length text = grind (arith, c.loop-at.invariant.within, c.as_bytes-bytes.ensures.value) in
    Cuts-whole text [] 0 reached.0 found c.utf8.text (subst (λ e. Cuts text [] 0 reached.0 found e) end reached.1) (All-nil (IsWhole text))
