-- In each arm the word is the one that the arm names, and the table computes; in the last it is none of them. Assumes nothing.
use mathlib.Core.Path.{sym}
use borrow.Author.Tests.{ne_eqb}
use Rattle.ioctl_table.specs.Table.{known_words, call_of, request_of}
use Rattle.ioctl_table.proofs.table.row.Goals as goal

pub returns-in-2154321408 : goal.returns-in-2154321408
unfolding known_words call_of request_of
returns-in-2154321408 c = rw (c.asks.ensures, c.in-2154321408.is)

pub returns-in-3225441794 : goal.returns-in-3225441794
unfolding known_words call_of request_of
returns-in-3225441794 c = rw (c.asks-in-3225441794.ensures, c.in-3225441794.is)

pub returns-in-3234616836 : goal.returns-in-3234616836
unfolding known_words call_of request_of
returns-in-3234616836 c = rw (c.asks-in-3234616836.ensures, c.in-3234616836.is)

pub returns-in-3234616837 : goal.returns-in-3234616837
unfolding known_words call_of request_of
returns-in-3234616837 c = rw (c.asks-in-3234616837.ensures, c.in-3234616837.is)

pub returns-in-3234616896 : goal.returns-in-3234616896
unfolding known_words call_of request_of
returns-in-3234616896 c = rw (c.asks-in-3234616896.ensures, c.in-3234616896.is)

pub returns-in-3222558216 : goal.returns-in-3222558216
unfolding known_words call_of request_of
returns-in-3222558216 c = rw (c.asks-in-3222558216.ensures, c.in-3222558216.is)

pub returns-in-3225703945 : goal.returns-in-3225703945
unfolding known_words call_of request_of
returns-in-3225703945 c = rw (c.asks-in-3225703945.ensures, c.in-3225703945.is)

pub returns-in-3225703951 : goal.returns-in-3225703951
unfolding known_words call_of request_of
returns-in-3225703951 c = rw (c.asks-in-3225703951.ensures, c.in-3225703951.is)

pub returns-in-3225703953 : goal.returns-in-3225703953
unfolding known_words call_of request_of
returns-in-3225703953 c = rw (c.asks-in-3225703953.ensures, c.in-3225703953.is)

pub returns-in-1074026002 : goal.returns-in-1074026002
unfolding known_words call_of request_of
returns-in-1074026002 c = rw (c.asks-in-1074026002.ensures, c.in-1074026002.is)

pub returns-in-1074026003 : goal.returns-in-1074026003
unfolding known_words call_of request_of
returns-in-1074026003 c = rw (c.asks-in-1074026003.ensures, c.in-1074026003.is)

pub returns-in-3221771803 : goal.returns-in-3221771803
unfolding known_words call_of request_of
returns-in-3221771803 c = rw (c.asks-in-3221771803.ensures, c.in-3221771803.is)

pub returns-in-3221771804 : goal.returns-in-3221771804
unfolding known_words call_of request_of
returns-in-3221771804 c = rw (c.asks-in-3221771804.ensures, c.in-3221771804.is)

pub returns-in-3225703972 : goal.returns-in-3225703972
unfolding known_words call_of request_of
returns-in-3225703972 c = rw (c.asks-in-3225703972.ensures, c.in-3225703972.is)

pub returns-in-3224131130 : goal.returns-in-3224131130
unfolding known_words call_of request_of
returns-in-3224131130 c = rw (c.asks-in-3224131130.ensures, c.in-3224131130.is)

pub returns-in-3222558267 : goal.returns-in-3222558267
unfolding known_words call_of request_of
returns-in-3222558267 c = rw (c.asks-in-3222558267.ensures, c.in-3222558267.is)

pub returns-in-1075074620 : goal.returns-in-1075074620
unfolding known_words call_of request_of
returns-in-1075074620 c = rw (c.asks-in-1075074620.ensures, c.in-1075074620.is)

pub returns-in-3228849733 : goal.returns-in-3228849733
unfolding known_words call_of request_of
returns-in-3228849733 c = rw (c.asks-in-3228849733.ensures, c.in-3228849733.is)

pub returns-in_default : goal.returns-in_default
unfolding known_words call_of request_of
returns-in_default c =
    let w = c.args.w in
    let none = c.in_default.in_default-own.rest in
    rw (
      c.asks-in_default.ensures,
      ne_eqb 0x80685600 w (λ e. none.0.0.0.0.0.0.0.0.0.0.0.0.0.0.0.0.0.1 (sym e)),
      ne_eqb 0xC0405602 w (λ e. none.0.0.0.0.0.0.0.0.0.0.0.0.0.0.0.0.1 (sym e)),
      ne_eqb 0xC0CC5604 w (λ e. none.0.0.0.0.0.0.0.0.0.0.0.0.0.0.0.1 (sym e)),
      ne_eqb 0xC0CC5605 w (λ e. none.0.0.0.0.0.0.0.0.0.0.0.0.0.0.1 (sym e)),
      ne_eqb 0xC0CC5640 w (λ e. none.0.0.0.0.0.0.0.0.0.0.0.0.0.1 (sym e)),
      ne_eqb 0xC0145608 w (λ e. none.0.0.0.0.0.0.0.0.0.0.0.0.1 (sym e)),
      ne_eqb 0xC0445609 w (λ e. none.0.0.0.0.0.0.0.0.0.0.0.1 (sym e)),
      ne_eqb 0xC044560F w (λ e. none.0.0.0.0.0.0.0.0.0.0.1 (sym e)),
      ne_eqb 0xC0445611 w (λ e. none.0.0.0.0.0.0.0.0.0.1 (sym e)),
      ne_eqb 0x40045612 w (λ e. none.0.0.0.0.0.0.0.0.1 (sym e)),
      ne_eqb 0x40045613 w (λ e. none.0.0.0.0.0.0.0.1 (sym e)),
      ne_eqb 0xC008561B w (λ e. none.0.0.0.0.0.0.1 (sym e)),
      ne_eqb 0xC008561C w (λ e. none.0.0.0.0.0.1 (sym e)),
      ne_eqb 0xC0445624 w (λ e. none.0.0.0.0.1 (sym e)),
      ne_eqb 0xC02C563A w (λ e. none.0.0.0.1 (sym e)),
      ne_eqb 0xC014563B w (λ e. none.0.0.1 (sym e)),
      ne_eqb 0x4014563C w (λ e. none.0.1 (sym e)),
      ne_eqb 0xC0745645 w (λ e. none.1 (sym e)),
    )
