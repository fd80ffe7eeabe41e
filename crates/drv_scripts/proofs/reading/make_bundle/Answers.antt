use Rattle.std.proofs.Common.{◌≡◌, ◌∙◌, ◌++◌, ℕ, List, ap, refl, sym, map, length}
use Rattle.std.proofs.lemmas.Simd.{map-map}
use Rattle.clk_base.specs.Checked.{Checked}
use Rattle.clk_base.specs.declared.command.Command.{Command}
use Rattle.dts_clocks.specs.Assigned.{SeenAssigned, seen_assigned}
use Rattle.drv_scripts.specs.declared.bundle.LateLine.{LateLine}
use Rattle.drv_scripts.specs.declared.part.Others.{Others}
use Rattle.drv_scripts.specs.Parts.{made}
use Rattle.drv_scripts.specs.Spelled.{probes_without, assigned_commands}
use Rattle.drv_scripts.proofs.reading.make_bundle.Goals as goal

-- a bundle with boot's commands as they are made
made_with : (desc : Checked) (lines : List ℕ) (assigned : List SeenAssigned) (words : List ℕ) (others : Others) (numbers : List ℕ) (boot : List Command) → numbers ≡ map (λ a. a.line) assigned
    → boot ≡ probes_without others.late.items (length desc.defs) ++ assigned_commands assigned
    → record {
      desc = desc;
      clock_lines = lines;
      assigned_lines = numbers;
      words = words;
      locks = others.locks.items;
      late = others.late.items;
      boot = boot;
      drivers = others.drivers.items;
      order = others.order.items;
    } ≡ made desc lines assigned words others
made_with desc lines assigned words others numbers boot e f = rw (e, f) refl

pub returns : goal.returns
returns c =
    let nodes = c.args.assigned.now in
    let others = c.args.contents.others in
    let numbers = c.in_ok-assigned.ensures ∙ sym (map-map (λ (a : SeenAssigned). a.line) seen_assigned nodes) in
    let boot = c.in_ok-boot.ensures ∙ ap (λ (late : List LateLine). probes_without late c.len.result ++ assigned_commands (map seen_assigned nodes)) c.deref.ensures.value
    ∙ ap (λ (n : ℕ). probes_without others.late.items n ++ assigned_commands (map seen_assigned nodes)) c.len.ensures.len in
    c.bundle_with.ensures ∙ made_with c.args.desc c.args.clock_lines.items (map seen_assigned nodes) c.args.contents.words.items others _ _ numbers boot
