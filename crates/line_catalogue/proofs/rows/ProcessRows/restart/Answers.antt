-- Where the vectors stand is left as it is where places are noted anew, and there is no less room.
use Rattle.std.proofs.Common.{◌≡◌, ◌-◌, ◌*◌, ◌≤◌, length, vec_capacity, vec_len, sym, subst, arith}
use Rattle.line_catalogue.specs.Laid.{width_of}
use Rattle.line_catalogue.proofs.rows.ProcessRows.restart.Goals as goal

pub invariant_of-self : goal.invariant_of-self
invariant_of-self c =
    let same : length c.go_back.new.present
    ≡ length c.self.inside.present = c.go_back.ensures.lanes in (
      c.place_rows.ensures.laid c.go_back.new.lanes.items c.go_back.new.heard
          c.go_back.new.starts c.go_back.new.present
          c.go_back.ensures.laid,
      record {
        rows_fit = omega (
          arith,
          c.self.invariant.1.rows_fit,
          c.go_back.ensures.room,
          c.place_rows.ensures.room.0,
          c.place_rows.ensures.room.1,
        );
        vectors_fit = subst
            (λ n. c.self.inside.room * width_of n ≤ vec_capacity c.go_back.new.lanes - vec_len
            c.go_back.new.lanes) (sym same)
            (omega (arith, c.self.invariant.1.vectors_fit, c.go_back.ensures.vector));
      },
    )
