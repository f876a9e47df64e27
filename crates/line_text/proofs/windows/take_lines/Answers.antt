use Rattle.std.proofs.Common.{◌≡◌, ◌≤◌, ◌-◌, ◌+◌, ◌∙◌, ◌++◌, List, ℕ, Some, ap, arith, drop, length}
use Rattle.std.proofs.Common.{subst, sym, take}
use Rattle.std.proofs.lemmas.List.{drop-take, length-drop, length-take-le, take-append-le}
use Rattle.std.proofs.lemmas.List.{take-take}
use Rattle.std.specs.List.{copy_within}
use Rattle.line_text.proofs.WindowLemmas.{feed_found, lines_taken, up_to_feed}
use Rattle.line_text.proofs.windows.take_lines.Goals as goal

-- what comes after the lines that were taken stands at the front
moved_to_front : (room : List ℕ) (end held : ℕ) → end ≤ held → held ≤ length room
    → take (held - end) (copy_within room end held 0) ≡ drop end (take held room)
moved_to_front room end held le within =
    let long : length (take (held - end) (drop end room)) ≡ held - end = length-take-le (held - end)
    (drop end room) (omega (arith, within, length-drop end room)) in
    let sum : held ≡ end + (held - end) = omega (arith, le) in
    take-append-le (held - end) (take (held - end) (drop end room)) _
    (omega (arith, long)) ∙ take-take (held - end) (held - end) (drop end room) (omega arith)
    ∙ sym (drop-take end (held - end) room) ∙ ap (λ (n : ℕ). drop end (take n room)) (sym sum)

pub returns-clause-read : goal.returns-clause-read
returns-clause-read g c =
    let room : List ℕ = c.args.window.now.bytes.items in
    let held : ℕ = c.args.window.now.held in
    let begin : ℕ = held - c.args.count in
    let end : ℕ = begin + c.in-Some.at + 1 in
    let last = feed_found _ (Some c.in-Some.at) (rw c.deref.ensures.value at c.in-Some.ensures) in
    let long : length (take (held - begin) (drop begin room)) ≡ held - begin = length-take-le
    (held - begin) (drop begin room) (omega (arith, c.requires.room, length-drop begin room)) in
    let within : end ≤ held = omega (arith, last.0, long, c.requires.count) in
    let feed = up_to_feed room begin held c.in-Some.at
    (omega arith) c.requires.room last.0 last.1 in
    let piece : take end c.deref-2.result.now ≡ take end (take held room) = ap
    (take end) c.deref-2.ensures.value ∙ sym (take-take end held room within) in
    let rest : take (held - end) c.copy_within.new.self.items ≡ drop end (take held room) =
    ap (take (held - end)) c.copy_within.ensures.items ∙ moved_to_front room end held within
    c.requires.room in
    λ text read. lines_taken text _ _ end _ _ feed
    (λ front ends before. subst (λ (t : List ℕ). g.R.LineReader.has_taken c.take_piece.new.self
    (front ++ t)) piece (c.in_ok-take_piece.ensures front ends before)) rest read
