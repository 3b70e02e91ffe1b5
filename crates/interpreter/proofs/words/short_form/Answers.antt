use Rattle.registers.specs.Text.{if◌then◌otherwise◌, bytes, small}
use Rattle.registers.specs.Words.{short_form}
use Rattle.interpreter.specs.WordsParts.{word_list, word_at}
use Rattle.interpreter.proofs.words.Taken.{past_words}
use native.Mathlib.Omega.{arith}
use Rattle.interpreter.proofs.words.short_form.Goals as goal

pub returns-in-0 : goal.returns-in-0
unfolding word_at word_list short_form bytes small if◌then◌otherwise◌
returns-in-0 c = rw c.in-0.is

pub returns-in-1 : goal.returns-in-1
unfolding word_at word_list short_form bytes small if◌then◌otherwise◌
returns-in-1 c = rw c.in-1.is

pub returns-in-2 : goal.returns-in-2
unfolding word_at word_list short_form bytes small if◌then◌otherwise◌
returns-in-2 c = rw c.in-2.is

pub returns-in-3 : goal.returns-in-3
unfolding word_at word_list short_form bytes small if◌then◌otherwise◌
returns-in-3 c = rw c.in-3.is

pub returns-in-4 : goal.returns-in-4
unfolding word_at word_list short_form bytes small if◌then◌otherwise◌
returns-in-4 c = rw c.in-4.is

pub returns-in-5 : goal.returns-in-5
unfolding word_at word_list short_form bytes small if◌then◌otherwise◌
returns-in-5 c = rw c.in-5.is

pub returns-in-6 : goal.returns-in-6
unfolding word_at word_list short_form bytes small if◌then◌otherwise◌
returns-in-6 c = rw c.in-6.is

pub returns-in-7 : goal.returns-in-7
unfolding word_at word_list short_form bytes small if◌then◌otherwise◌
returns-in-7 c = rw c.in-7.is

pub returns-in-8 : goal.returns-in-8
unfolding word_at word_list short_form bytes small if◌then◌otherwise◌
returns-in-8 c = rw c.in-8.is

pub returns-in-9 : goal.returns-in-9
unfolding word_at word_list short_form bytes small if◌then◌otherwise◌
returns-in-9 c = rw c.in-9.is

pub returns-in_default : goal.returns-in_default
returns-in_default c = let r = c.in_default.in_default-own.rest in past_words c.args.word (omega (arith, r))
