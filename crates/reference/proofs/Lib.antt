mod Words
mod Asking
mod Recording
mod Running
