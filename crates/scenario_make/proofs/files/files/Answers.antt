use Rattle.std.proofs.Common.{◌≡◌, ◌*◌, [], ◌∷◌, sym, ap, ◌∙◌, ℕ, arith}
use Rattle.std.proofs.lemmas.List.{map-append}
use Rattle.tiger_base.specs.Library.{contents}
use Rattle.scenario_make.specs.Draws.{after}
use Rattle.scenario_make.specs.Files.{lines_by, contents_by}
use Rattle.scenario_make.proofs.Drawing.{after-none}
use Rattle.scenario_make.proofs.Growing.{lines_by-none, lines_by-step, contents_by-none, contents_by-step, after_threes}
use Rattle.scenario_make.proofs.files.files.Goals as goal

pub loop-file-init : goal.loop-file-init
loop-file-init c = record {
  count = c.new-contents.ensures.len;
  lines = c.new-lines.ensures.items ∙ sym (lines_by-none c.args.generator.now);
  contents = ap contents c.new-contents.ensures.items ∙ sym (contents_by-none c.args.generator.now);
  generator = sym (after-none c.args.generator.now);
}

pub loop-file-preserved : goal.loop-file-preserved
loop-file-preserved c =
    let g = c.args.generator.now in
    let h = c.loop-file.generator in
    let n = c.loop-file.file in
    let drawn = c.in_ok-drawn.drawn in
    let at = c.loop-file.invariant.generator in
    let joined = ap contents c.in_ok-push-2.ensures.items ∙ map-append (λ v. v.items) c.loop-file.contents.items (drawn.bytes ∷ []) in
    record {
      count = omega (arith, c.in_ok-push-2.ensures.len);
      lines = lines_by-step g h n drawn.line c.loop-file.lines.items c.push.new.self.items c.loop-file.invariant.lines at c.in_ok-drawn.ensures.line c.in_ok-push.ensures.items;
      contents = contents_by-step g h n drawn.bytes.items (contents c.loop-file.contents.items) (contents c.push-in-loop-file.new.self.items) c.loop-file.invariant.contents at c.in_ok-drawn.ensures.bytes joined;
      generator = after_threes g h c.drawn_file.new.generator n at c.in_ok-drawn.ensures.after;
    }

pub returns : goal.returns
returns c =
    let g = c.args.generator.now in
    let all : c.loop-file.file ≡ 8 = omega arith in
    record {
      lines = c.new.ensures ∙ c.loop-file.invariant.lines ∙ ap (lines_by g) all;
      library = c.new-2.ensures ∙ c.loop-file.invariant.contents ∙ ap (contents_by g) all;
      after = c.loop-file.invariant.generator ∙ ap (λ (n : ℕ). after (3 * n) g) all;
    }
