-- The first bytes decide, so the reply to them is that to the whole text.
use Rattle.std.proofs.Common.{◌≡◌, ◌≤◌, IfErr, IfSome, List, OnOk, length, rules, subst, sym, take, ℕ}
use Rattle.std.proofs.lemmas.Result.{IfErr-weaker, on_ok_weaker}
use Rattle.std.specs.declared.io.Error.{Error}
use Rattle.std.specs.declared.option.Option.{Option}
use Rattle.answer.specs.Printed.{Prints}
use Rattle.input.proofs.Reading.{of_input}
use Rattle.text.proofs.TextLaws.{first_bytes_decide}
use Rattle.text.specs.Limits.{text_bytes}
use Rattle.text.specs.Text.{read_text}
use Rattle.trim.specs.Replies.{Replies, RepliesInPart}
use Rattle.trim.specs.declared.Failure.TheVariants.{Writing}
use Rattle.trim.proofs.trim_text.Given as given
use Rattle.trim.proofs.trim_text.Goals as goal

module _ (had holds : Option (List ℕ)) (text : List ℕ) where
  -- what is printed for the first bytes
  printed : (reply : List ℕ) → Prints (read_text (take text_bytes text)) reply → Prints (read_text text) reply
  printed reply = subst (λ t. Prints t reply) (sym (first_bytes_decide text))

  whole : Replies (take text_bytes text) had holds → Replies text had holds
  whole (reply, p, put) = (reply, printed reply p, put)

  part : RepliesInPart (take text_bytes text) had holds → RepliesInPart text had holds
  part (reply, k, p, put) = (reply, k, printed reply p, put)

-- what the first bytes decide, and holds of what was read, holds of the input
decided : (g : given.Over) (c : goal.After-map_err-2 g) (P : List ℕ → Type 0) → ((text : List ℕ) → P (take text_bytes text) → P text)
    → P (take c.in_ok-bytes.bytes c.read_input.new.buf) → IfSome (g.R.Read.remaining c.args.from.now) P
decided g c P first =
    let read = take c.in_ok-bytes.bytes c.read_input.new.buf in
    let within : length read ≤ text_bytes = search rules in
    of_input text_bytes read within P (g.R.Read.remaining c.args.from.now) (g.R.Read.remaining c.read_input.new.from) (search rules) first

pub returns-clause-whole : goal.returns-clause-whole
returns-clause-whole g c =
    let had = g.W.Write.contents c.args.out.now in
    let holds = g.W.Write.contents c.reply_to.new.out in
    let put : OnOk c.map_err-2.result (Replies (take c.in_ok-bytes.bytes c.read_input.new.buf) had holds) = search rules in
    on_ok_weaker c.map_err-2.result (decided g c (λ text. Replies text had holds) (whole had holds)) put

pub returns-clause-part : goal.returns-clause-part
returns-clause-part g c =
    let had = g.W.Write.contents c.args.out.now in
    let holds = g.W.Write.contents c.reply_to.new.out in
    let writing : IfErr c.map_err-2.result (λ failure. (error : Error) × (failure ≡ Writing error)) = search rules in
    let put = decided g c (λ text. RepliesInPart text had holds) (part had holds) c.reply_to.ensures.part in
    IfErr-weaker c.map_err-2.result _ _ (λ failure (error, is). rw is put) writing
