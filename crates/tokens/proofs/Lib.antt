mod Numbers
mod Tokens
mod Answering
mod Reading
