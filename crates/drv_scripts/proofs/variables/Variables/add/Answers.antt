use Rattle.std.proofs.Common.{◌∙◌, ap, sym, Some}
use Rattle.std.specs.List.{position}
use Rattle.std.specs.Str.{bytes_eq}
use Rattle.bundle_text.specs.Words.{texts}
use Rattle.drv_scripts.specs.Commands.{with_variable}
use Rattle.bundle_text.proofs.Mapped.{position_or_len-texts}
use Rattle.drv_scripts.proofs.Numbered.{position-with, texts-with}
use Rattle.drv_scripts.proofs.variables.Variables.add.Goals as goal

pub returns-clause-number : goal.returns-clause-number
returns-clause-number c =
    let keys = c.self.inside.names.keys in
    ap (position (bytes_eq c.args.var.now)) (ap texts c.in_ok-place.ensures.keys ∙ texts-with c.args.var keys)
    ∙ (position-with c.args.var.now (texts keys) ∙ ap Some (sym (c.in_ok-place.ensures.index ∙ position_or_len-texts (bytes_eq c.args.var.now) keys)))

pub returns-clause-after : goal.returns-clause-after
returns-clause-after c =
    let keys = c.self.inside.names.keys in
    ap texts c.in_ok-place.ensures.keys ∙ (texts-with c.args.var keys ∙ ap (λ vars. with_variable vars c.args.var.now) c.self.view_is)
