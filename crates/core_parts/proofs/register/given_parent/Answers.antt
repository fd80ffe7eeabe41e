use Rattle.std.proofs.Common.{◌≡◌, ◌∙◌, ℕ, List, Option, sym, ap, subst, take}
use Rattle.std.specs.Prelude.{IfSome}
use Rattle.std.specs.Option.{option_map}
use Rattle.clk_model.specs.Tree.{link_given}
use Rattle.core_parts.proofs.Described.{valid_over}
use Rattle.core_parts.proofs.RegisteredTree.{given_first}
use Rattle.core_parts.proofs.register.given_parent.Goals as goal

pub read_link-requires-clause-valid : goal.read_link-requires-clause-valid
read_link-requires-clause-valid g c =
    let tree = c.args.tree.now in
    valid_over tree.words c.args.window.now.size (g.B.Bank.size c.bank.result.now) tree.defs c.requires.valid c.requires.words c.bank.ensures.fits

pub returns-clause-link : goal.returns-clause-link
returns-clause-link g c =
    let tree = c.args.tree.now in
    let contents = g.B.Bank.contents c.bank.result.now in
    let words : option_map (take tree.words) contents ≡ c.args.window.now.words = ap (λ (n : ℕ). option_map (take n) contents) (sym c.requires.words) ∙ c.bank.ensures.words in
    subst (λ (o : Option (List ℕ)). IfSome o (λ regs. option_map (λ p. p.0) c.read_link.result ≡ link_given tree.defs regs tree.clocks c.args.clock.0)) words
    (given_first tree.words contents tree.defs tree.clocks c.args.clock.0 c.read_link.result c.requires.valid c.read_link.ensures.link)
