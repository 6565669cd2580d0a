-- Tokens that are made of several raw ones.
use Rattle.std.specs.Prelude.{ℕ, cond, ◌==◌}
use Rattle.tokens.specs.declared.composite.RawTokens.{RawTokens}
use Rattle.tokens.specs.declared.composite.RawTokens.TheVariants.{One, Two, Three}
use Rattle.tokens.specs.Kinds.{L_ANGLE, R_ANGLE, AMP, PIPE, PLUS, STAR, SLASH, CARET, PERCENT, DOT, DOT2, DOT3, DOT2EQ, COLON, COLON2, EQ, EQ2, FAT_ARROW, BANG, NEQ, MINUS, THIN_ARROW, LTEQ, GTEQ, PLUSEQ, MINUSEQ, PIPEEQ, AMPEQ, CARETEQ, SLASHEQ, STAREQ, PERCENTEQ, AMP2, PIPE2, SHL, SHR, SHLEQ, SHREQ}

-- the raw tokens that a token of this kind is made of
unfoldable pub parts : ℕ → RawTokens
parts k =
    cond (k == MINUSEQ) (Two MINUS EQ) (
    cond (k == THIN_ARROW) (Two MINUS R_ANGLE) (
    cond (k == COLON2) (Two COLON COLON) (
    cond (k == NEQ) (Two BANG EQ) (
    cond (k == DOT2) (Two DOT DOT) (
    cond (k == STAREQ) (Two STAR EQ) (
    cond (k == SLASHEQ) (Two SLASH EQ) (
    cond (k == AMP2) (Two AMP AMP) (
    cond (k == AMPEQ) (Two AMP EQ) (
    cond (k == PERCENTEQ) (Two PERCENT EQ) (
    cond (k == CARETEQ) (Two CARET EQ) (
    cond (k == PLUSEQ) (Two PLUS EQ) (
    cond (k == SHL) (Two L_ANGLE L_ANGLE) (
    cond (k == LTEQ) (Two L_ANGLE EQ) (
    cond (k == EQ2) (Two EQ EQ) (
    cond (k == FAT_ARROW) (Two EQ R_ANGLE) (
    cond (k == GTEQ) (Two R_ANGLE EQ) (
    cond (k == SHR) (Two R_ANGLE R_ANGLE) (
    cond (k == PIPEEQ) (Two PIPE EQ) (
    cond (k == PIPE2) (Two PIPE PIPE) (
    cond (k == DOT3) (Three DOT DOT DOT) (
    cond (k == DOT2EQ) (Three DOT DOT EQ) (
    cond (k == SHLEQ) (Three L_ANGLE L_ANGLE EQ) (
    cond (k == SHREQ) (Three R_ANGLE R_ANGLE EQ) (
    (One k)))))))))))))))))))))))))

abbrev pub length_of : RawTokens → ℕ
length_of (One a) = 1
length_of (Two a b) = 2
length_of (Three a b c) = 3

-- how many raw tokens it is made of
abbrev pub width : ℕ → ℕ
width k = length_of (parts k)
