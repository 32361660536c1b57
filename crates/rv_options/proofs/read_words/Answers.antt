use Rattle.std.proofs.Common.{◌≡◌, ◌∙◌, rules, arith, ap, refl, Some, List, ℕ}
use Rattle.std.specs.Borrow.{Bor}
use Rattle.std.specs.Prelude.{codes, option_map}
use Rattle.clap.specs.Walk.{texts}
use Rattle.rv_options.proofs.BoardParse.{number_got, text_got}
use Rattle.rv_options.proofs.read_words.Goals as goal

pub unwrap-steps-requires : goal.unwrap-steps-requires
unwrap-steps-requires c =
    let p = c.in_ok-matches.ensures.parsed in
    rw (number_got 32 0 1000000000 _ _ _ _ c.get_one.ensures.value (omega arith) p p.steps).is refl

pub unwrap-pages-requires : goal.unwrap-pages-requires
unwrap-pages-requires c =
    let p = c.in_ok-matches.ensures.parsed in
    rw (number_got 16 1 4096 _ _ _ _ c.get_one-2.ensures.value (omega arith) p p.pages).is refl

pub unwrap-slots-requires : goal.unwrap-slots-requires
unwrap-slots-requires c =
    let p = c.in_ok-matches.ensures.parsed in
    rw (number_got 16 64 4096 _ _ _ _ c.get_one-3.ensures.value (omega arith) p p.slots).is refl

pub returns-clause-read : goal.returns-clause-read
returns-clause-read c =
    let m = c.in_ok-matches.matches in
    let words = texts c.args.words.now in
    let p = c.in_ok-matches.ensures.parsed in
    let n = number_got 32 0 1000000000 words m (codes "steps") _ c.get_one.ensures.value (omega arith) p p.steps in
    let k = number_got 16 1 4096 words m (codes "pages") _ c.get_one-2.ensures.value (omega arith) p p.pages in
    let j = number_got 16 64 4096 words m (codes "slots") _ c.get_one-3.ensures.value (omega arith) p p.slots in
    let found : c.get_str.result ≡ Some c.unwrap-source.result = search rules in
    let steps : c.unwrap-steps.result ≡ n.value = cc in
    let pages : c.unwrap-pages.result ≡ k.value = cc in
    let slots : c.unwrap-slots.result ≡ j.value = cc in
    record {
      source = text_got words m (codes "source") c.get_str.result p c.get_str.ensures
          ∙ ap (option_map (λ (s : Bor (List ℕ)). s.now)) found;
      input = text_got words m (codes "input") c.get_str-input.result p c.get_str-input.ensures;
      commands = text_got words m (codes "commands") c.get_str-commands.result p c.get_str-commands.ensures;
      steps = rw steps (n.said, (n.least, n.most));
      pages = rw pages (k.said, (k.least, k.most));
      slots = rw slots (j.said, (j.least, j.most));
    }
